-- A part of a payload: some of its chunks, without the last.
use Rattle.std.specs.Prelude.{◌≡◌, ◌⊎◌, ◌+◌, ◌-◌, ◌<◌, ◌≤◌, ◌&&◌, ◌||◌, if◌then◌else◌}
use Rattle.agefile.specs.Words.{ℕ, Bool, true, false, nat_eq, nat_lt, replicate, None, Bytes, TooManyChunks, Part, Payload, Report}
use Rattle.agefile.specs.Codes.{ok, out_of_order}
use Rattle.agefile.specs.Sizes.{limits}
use Rattle.agefile.specs.Payload as payload
use Rattle.agefile.specs.Payload.{phase_closed, phase_reading, phase_writing, phase_ended}
use Rattle.agefile.specs.Report.{Refuses, Returns, Steps, report_of}

-- a part that is not open
abbrev pub closed_part : Part
closed_part = record { key = replicate 32 0; number = 0; left = 0; state = phase_closed; spare = 0 }

-- the next `count` chunks of a payload
abbrev pub next_of : (p : Payload) (count : ℕ) → Part
next_of p count =
    record { key = p.key; number = p.number; left = count; state = p.state; spare = 0 }

-- whether a payload is open for reading or writing, and `count` is above 0
abbrev pub may_take : (p : Payload) (count : ℕ) → Bool
may_take p count =
    (nat_eq p.state phase_reading || nat_eq p.state phase_writing) && nat_lt 0 count

-- the part has the next chunks, and the payload continues after them
pub record IsTaken (old new : Payload) (count : ℕ) (part : Part) (report : Report) (code : ℕ)
    : Type 0 where
  pub few : old.number + count ≤ limits.max_chunks
  pub returned : code ≡ ok
  pub reported : report ≡ report_of 0 None
  pub payload : new ≡ record old { number = old.number + count }
  pub given : part ≡ next_of old count

-- one call: the next chunks are taken from a payload as a part; or the payload is unchanged, and
-- the part is closed
abbrev pub TakesPart : (old new : Payload) (count : ℕ) (part : Part) (report : Report) (code : ℕ)
    → Type 0
TakesPart old new count part report code =
    ((may_take old count ≡ false) × Returns out_of_order None old new report code
    × (part ≡ closed_part))
    ⊎ ((may_take old count ≡ true)
    × (((limits.max_chunks < old.number + count) × Refuses TooManyChunks old new report code
    × (part ≡ closed_part))
    ⊎ IsTaken old new count part report code))

-- a part as a payload, without its count
abbrev pub payload_of : Part → Payload
payload_of p = record {
  key = p.key;
  number = p.number;
  state = p.state;
  damaged = 0;
  before = 0;
  held = 0;
}

-- a part after a call on its payload: an accepted chunk lowers the number of chunks left, and the
-- part's last chunk ends it
abbrev pub with_payload : (p : Part) (q : Payload) (code : ℕ) → Part
with_payload p q code =
    record p {
      number = q.number;
      left = if nat_eq code ok then p.left - 1 else p.left;
      state = if nat_eq code ok && nat_eq p.left 1 then phase_ended else q.state;
    }

-- one call on a part: this call on its payload if chunks are left, else only the report changes
abbrev pub OnPayload : (call : Payload → Type 0) (old new : Part) (chunk after : Bytes)
    (report : Report) (code : ℕ) → Type 0
OnPayload call old new chunk after report code =
    Steps (nat_lt 0 old.left) ((q : Payload) × call q × (new ≡ with_payload old q code)) old new
    chunk after report code

-- one call: if the part is open for reading and has chunks left, a full chunk is opened as its next
-- one, not as the file's last, or its fault is returned
abbrev pub OpensNext : (old new : Part) (chunk after : Bytes) (report : Report) (code : ℕ) → Type 0
OpensNext old new chunk after report code =
    OnPayload (λ q. payload.OpensNext (payload_of old) q chunk after false report code) old new
    chunk after report code

-- one call: if the part is open for writing and has chunks left, a full chunk is sealed as its next
-- one, not as the file's last, or 14 is returned
abbrev pub SealsNext : (old new : Part) (chunk after : Bytes) (report : Report) (code : ℕ) → Type 0
SealsNext old new chunk after report code =
    OnPayload (λ q. payload.SealsNext (payload_of old) q chunk after false report code) old new
    chunk after report code
