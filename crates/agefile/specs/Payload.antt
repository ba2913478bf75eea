-- A payload, which the caller holds between two calls: its phases and those of its parts, by the
-- numbers of `agefile.h`; the result of opening or sealing one chunk at its number; and the calls.
use Rattle.std.specs.Prelude.{◌≡◌, ◌+◌, ◌&&◌, if◌then◌else◌, ◌⊎◌, ◌-◌, ◌<◌, ◌≤◌, ◌++◌, ◌||◌}
use Rattle.agefile.specs.Words.{ℕ, Bool, length, nat_eq, replicate, [], take, drop, nat_le, nat_lt, None, Result, Ok, Err, Bytes, Payload, Report, sealed_text, StreamFault, chunk_nonce, outcome, tag_size, sealed_chunk_size, TooManyChunks, stream_fault}
use Rattle.agefile.specs.Codes.{ok}
use Rattle.agefile.specs.Report.{Steps, Refuses, report_of}
use Rattle.agefile.specs.Sizes.{limits}

-- not open
abbrev pub phase_closed : ℕ
phase_closed = 0

-- open for reading: the next chunk is to be opened
abbrev pub phase_reading : ℕ
phase_reading = 1

-- open for writing: the next chunk is to be sealed
abbrev pub phase_writing : ℕ
phase_writing = 2

-- the last chunk was accepted
abbrev pub phase_ended : ℕ
phase_ended = 3

-- a chunk had a fault
abbrev pub phase_failed : ℕ
phase_failed = 4

-- the chunk's buffer begins with the text, and the rest of it is unchanged; or the fault is
-- returned, and the whole buffer is unchanged
abbrev pub Opened : (chunk after : Bytes) (report : Report) (code : ℕ)
    (piece_outcome : Result Bytes StreamFault) → Type 0
Opened chunk after report code (Ok text) =
    (code ≡ ok) × (report ≡ report_of (length text) None)
    × (after ≡ text ++ drop (length text) chunk)
Opened chunk after report code (Err fault) =
    Refuses (stream_fault fault) chunk after report code

-- the result of opening a chunk under its number
abbrev pub OpensAs : (key : Bytes) (number : ℕ) (last : Bool) (chunk after : Bytes)
    (report : Report) (code : ℕ) → Type 0
OpensAs key number last chunk after report code =
    Opened chunk after report code (outcome key limits.max_chunks number last chunk)

-- a chunk's text, all but the last 16 bytes, is sealed under its number; or the number has reached
-- the limit of chunks, and the chunk is unchanged
abbrev pub SealsAs : (key : Bytes) (number : ℕ) (last : Bool) (chunk after : Bytes)
    (report : Report) (code : ℕ) → Type 0
SealsAs key number last chunk after report code =
    ((number < limits.max_chunks) × (code ≡ ok) × (report ≡ report_of (length chunk) None)
    × (after ≡ sealed_text key (chunk_nonce number last) [] (take (length chunk - tag_size) chunk)))
    ⊎ ((limits.max_chunks ≤ number) × Refuses TooManyChunks chunk after report code)

-- whether `len` is the length of a full chunk or, if the chunk is the last, at most that
abbrev pub is_chunk_len : (len : ℕ) (last : Bool) → Bool
is_chunk_len len last = if last then nat_le len sealed_chunk_size else nat_eq len sealed_chunk_size

-- whether a chunk of this length has a tag and some text; chunk 0 may be a tag alone
abbrev pub has_text : (number len : ℕ) → Bool
has_text number len = nat_lt tag_size len || (nat_eq len tag_size && nat_eq number 0)

-- a payload that is not open
abbrev pub closed_payload : Payload
closed_payload = record {
  key = replicate 32 0;
  number = 0;
  state = phase_closed;
  damaged = 0;
  before = 0;
  held = 0;
}

-- a payload before chunk 0, for reading or writing
abbrev pub before_first : (key : Bytes) (phase : ℕ) → Payload
before_first key phase = record closed_payload { key = key; state = phase }

-- a payload after an accepted chunk, or after a fault
abbrev pub after_chunk : (p : Payload) (last : Bool) (code : ℕ) → Payload
after_chunk p last code =
    if nat_eq code ok
    then record p { number = p.number + 1; state = if last then phase_ended else p.state }
    else record p { state = phase_failed }

-- whether a payload may open a chunk of `len` bytes next
abbrev pub may_open : (p : Payload) (len : ℕ) (last : Bool) → Bool
may_open p len last = nat_eq p.state phase_reading && is_chunk_len len last

-- whether a payload may seal a chunk of `len` bytes next
abbrev pub may_seal : (p : Payload) (len : ℕ) (last : Bool) → Bool
may_seal p len last =
    nat_eq p.state phase_writing && is_chunk_len len last && has_text p.number len

-- one call: opens the chunk as the payload's next, or returns its fault; 23 unless `may_open`
abbrev pub OpensNext : (old new : Payload) (chunk after : Bytes) (last : Bool) (report : Report)
    (code : ℕ) → Type 0
OpensNext old new chunk after last report code =
    Steps (may_open old (length chunk) last)
    (OpensAs old.key old.number last chunk after report code × (new ≡ after_chunk old last code))
    old new chunk after report code

-- one call: seals the chunk as the payload's next, or returns 14; 23 unless `may_seal`
abbrev pub SealsNext : (old new : Payload) (chunk after : Bytes) (last : Bool) (report : Report)
    (code : ℕ) → Type 0
SealsNext old new chunk after last report code =
    Steps (may_seal old (length chunk) last)
    (SealsAs old.key old.number last chunk after report code × (new ≡ after_chunk old last code))
    old new chunk after report code
