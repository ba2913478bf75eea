-- Reading parts of a plaintext in steps: the caller reads one sealed chunk of the file at a time
-- (C2SP age.md, "Payload").
use Rattle.std.specs.Prelude.{◌≡◌, ◌⊎◌, ◌<◌, ◌≤◌, ◌+◌, ◌-◌, ◌*◌, ◌/◌, ◌%◌, ◌^◌, ◌++◌, ◌&&◌, ◌||◌}
use Rattle.age_stream.specs.Ranges.{last_index}
use Rattle.agefile.specs.Words.{ℕ, Bool, length, take, drop, min, nat_eq, nat_le, nat_lt, replicate, None, Result, Ok, Err, Bytes, StreamFault, outcome, Fault, Answering, stream_fault, Report, Start, tag_size, chunk_size, sealed_chunk_size}
use Rattle.agefile.specs.declared.ranges.Ranges.{Ranges}
use Rattle.agefile.specs.Codes.{ok, out_of_order}
use Rattle.agefile.specs.Sizes.{limits}
use Rattle.agefile.specs.Report.{Refuses, Returns, report_of}
use Rattle.agefile.specs.Unlock.{FindsStart}

-- not open
abbrev pub state_closed : ℕ
state_closed = 0

-- open, with the last piece not verified yet
abbrev pub state_open : ℕ
state_open = 1

-- open, with the last piece verified
abbrev pub state_verified : ℕ
state_verified = 2

-- the length of piece i, if all pieces together have `sealed` bytes
abbrev pub piece_len : (sealed i : ℕ) → ℕ
piece_len sealed i = min sealed_chunk_size (sealed - sealed_chunk_size * i)

-- the length of the plaintext in `sealed` bytes of pieces, each of which has a tag
abbrev pub plain_of : ℕ → ℕ
plain_of sealed = sealed - tag_size * (last_index sealed + 1)

-- a payload that is not open
abbrev pub closed_ranges : Ranges
closed_ranges = record { key = replicate 32 0; first = 0; sealed_len = 0; state = state_closed }

-- the payload from its start to the end of a file of `file_len` bytes
abbrev pub ranges_from : (start : Start) (file_len : ℕ) → Ranges
ranges_from start file_len =
    record {
      key = start.key;
      first = start.first;
      sealed_len = file_len - start.first;
      state = state_open;
    }

-- the offset of piece i in the file, and its length
abbrev pub piece_report : (r : Ranges) (i : ℕ) → Report
piece_report r i =
    record { len = piece_len r.sealed_len i; place = r.first + sealed_chunk_size * i; detail = 0 }

-- the payload is open, and the offset and length of its last piece are reported; or no payload is
-- open: the fault is returned, or 23 because the file ends before its first piece
abbrev pub OpensAt : (file_len : ℕ) (start : Result Start Fault) (new : Ranges) (report : Report)
    (code : ℕ) → Type 0
OpensAt file_len (Ok start) new report code =
    ((file_len < start.first) × Returns out_of_order None closed_ranges new report code)
    ⊎ ((start.first ≤ file_len) × (code ≡ ok) × (new ≡ ranges_from start file_len)
    × (report ≡ piece_report (ranges_from start file_len) (last_index (file_len - start.first))))
OpensAt file_len (Err fault) new report code =
    Refuses fault closed_ranges new report code

-- the result of opening a file of `file_len` bytes with this front
abbrev pub OpensRanges : (answers : Answering) (front : Bytes) (file_len : ℕ) (new : Ranges)
    (report : Report) (code : ℕ) → Type 0
OpensRanges answers front file_len new report code =
    (start : Result Start Fault) × FindsStart answers front start
    × OpensAt file_len start new report code

-- the bytes of piece i in a file
abbrev pub piece_at : (r : Ranges) (b : Bytes) (i : ℕ) → Bytes
piece_at r b i = take (piece_len r.sealed_len i) (drop (r.first + sealed_chunk_size * i) b)

-- the result of opening these bytes as piece i
abbrev pub piece_outcome : (r : Ranges) (i : ℕ) (piece : Bytes) → Result Bytes StreamFault
piece_outcome r i piece =
    outcome r.key limits.max_chunks i (nat_le r.sealed_len (sealed_chunk_size * (i + 1))) piece

-- the result of verifying the last piece, which proves the length of the plaintext if it opens
abbrev pub Verified : (old new : Ranges) (chunk after : Bytes) (report : Report) (code : ℕ)
    (piece_outcome : Result Bytes StreamFault) → Type 0
Verified old new chunk after report code (Ok text) =
    (code ≡ ok)
    × (new ≡ record old { state = state_verified })
    × (after ≡ text ++ drop (length text) chunk)
    × (report ≡ report_of (plain_of old.sealed_len) None)
Verified old new chunk after report code (Err fault) =
    Refuses (stream_fault fault) chunk after report code
    × (new ≡ record old { state = state_open })

-- the payload is open, and the chunk has the length of the last piece
abbrev pub may_verify : (r : Ranges) (chunk : Bytes) → Bool
may_verify r chunk =
    (nat_eq r.state state_open || nat_eq r.state state_verified)
    && nat_eq (length chunk) (piece_len r.sealed_len (last_index r.sealed_len))

-- the last piece was verified, offsets in the file fit 64 bits, and the plaintext has a byte at
-- this offset
abbrev pub has_byte : (r : Ranges) (at : ℕ) → Bool
has_byte r at =
    nat_eq r.state state_verified && nat_lt (r.first + r.sealed_len) (2 ^ 64)
    && nat_lt at (plain_of r.sealed_len)

-- `has_byte` holds, and the chunk has the length of the piece that holds byte `at`
abbrev pub may_open : (r : Ranges) (at : ℕ) (chunk : Bytes) → Bool
may_open r at chunk =
    has_byte r at && nat_eq (length chunk) (piece_len r.sealed_len (at / chunk_size))

-- the result of opening the piece that holds byte `at`: its text is at the start of the buffer, and
-- the report has the offset and length of the text from `at` on; or the fault is returned
abbrev pub GivesFrom : (at : ℕ) (chunk after : Bytes) (report : Report) (code : ℕ)
    (piece_outcome : Result Bytes StreamFault) → Type 0
GivesFrom at chunk after report code (Ok text) =
    (code ≡ ok) × (after ≡ text ++ drop (length text) chunk)
    × (report ≡ record { len = length text - at % chunk_size; place = at % chunk_size; detail = 0 })
GivesFrom at chunk after report code (Err fault) =
    Refuses (stream_fault fault) chunk after report code
