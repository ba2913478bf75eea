-- Saving what is left of a payload, one sealed chunk after another.
use Rattle.std.specs.Prelude.{◌≡◌, ◌⊎◌, ◌<◌, ◌≤◌, ◌∷◌, ◌++◌, Option, if◌then◌else◌}
use Rattle.agefile.specs.Words.{ℕ, List, [], true, Bool, nat_eq, nat_le, length, take, drop, Bytes, TooManyChunks, is_end, Payload, Report}
use Rattle.age_stream.specs.declared.salvaged.Saved.{Saved}
use Rattle.age_stream.specs.declared.salvaged.Saved.TheVariants.{Chunk, LastChunk, Padded, Early, Zeros, Nothing}
use Rattle.age_stream.specs.Salvage.{Part, is_cut_to, is_whole_to, part}
use Rattle.age_stream.specs.declared.salvaged.Salvaged.{Salvaged}
use Rattle.agefile.specs.Codes.{ok}
use Rattle.agefile.specs.Payload.{after_chunk, may_open}
use Rattle.agefile.specs.Report.{Refuses, Steps}
use Rattle.agefile.specs.Sizes.{limits}

-- what was saved of a chunk, by the numbers of `agefile.h`
abbrev pub saved_number : Saved → ℕ
saved_number Chunk = 1
saved_number LastChunk = 2
saved_number Early = 3
saved_number Zeros = 4
saved_number Nothing = 5
saved_number (Padded k) = 6

-- 1 once a chunk is lost or early
abbrev pub damage : (before : ℕ) (saved : Saved) → ℕ
damage before Zeros = 1
damage before Early = 1
damage before _ = before

-- what a payload notes of a chunk: whether it or an earlier one is lost or early; what was saved
abbrev pub noted : (p : Payload) (saved : Saved) → Payload
noted p saved = record p { damaged = damage p.damaged saved; before = saved_number saved }

-- 1 if the plaintext is whole, 2 if it is cut short, else 0
abbrev pub verdict_to : (lost : ℕ) (early : Option ℕ) (before last : Saved) → ℕ
verdict_to lost early before last =
    if is_whole_to last lost early then 1 else if is_cut_to last before then 2 else 0

abbrev pub verdict_of : Salvaged → ℕ
verdict_of s = verdict_to s.lost s.early s.before s.last

-- the verdict, 1, 2 or 0, by what was saved of the last chunk and the notes of a payload
abbrev pub judged : (last : Saved) (damaged before : ℕ) → ℕ
judged LastChunk damaged before = if nat_eq damaged 0 then 1 else 0
judged Chunk damaged before = 2
judged Nothing damaged before = if nat_le before 1 then 2 else 0
judged _ damaged before = 0

-- the report's detail after a chunk
abbrev pub detail_of : (p : Payload) (last : Bool) (saved : Saved) → ℕ
detail_of p last saved = if last then judged saved p.damaged p.before else 0

-- the chunk's buffer begins with the text of this part and is otherwise unchanged; the report has
-- the text's length, what was saved and, after the last chunk, the verdict on the plaintext
abbrev pub Gives : (p : Payload) (last : Bool) (part : Part) (chunk after : Bytes)
    (report : Report) (code : ℕ) → Type 0
Gives p last q chunk after report code =
    (code ≡ ok)
    × (report ≡ record {
      len = length q.text;
      place = saved_number q.saved;
      detail = detail_of p last q.saved;
    })
    × (after ≡ q.text ++ drop (length q.text) chunk)

-- the part for this chunk at its number is returned, and the payload continues after it; or the
-- number has reached the limit of chunks, the chunk is unchanged, and the payload fails
abbrev pub SavesAs : (old new : Payload) (last : Bool) (chunk after : Bytes) (report : Report)
    (code : ℕ) → Type 0
SavesAs old new last chunk after report code =
    ((old.number < limits.max_chunks)
    × Gives old last (part old.key old.number last chunk) chunk after report code
    × (new ≡ after_chunk (noted old (part old.key old.number last chunk).saved) last ok))
    ⊎ ((limits.max_chunks ≤ old.number) × Refuses TooManyChunks chunk after report code
    × (new ≡ after_chunk old last code))

-- one call: if the payload may open a chunk of this length next, returns what can be saved of it
abbrev pub SavesNext : (old new : Payload) (chunk after : Bytes) (last : Bool) (report : Report)
    (code : ℕ) → Type 0
SavesNext old new chunk after last report code =
    Steps (may_open old (length chunk) last) (SavesAs old new last chunk after report code) old new
    chunk after report code

-- what a call returns for a chunk: the text, and what was saved
pub record Given : Type 0 where
  pub text : Bytes
  pub number : ℕ

abbrev pub given_of : Part → Given
given_of p = record { text = p.text; number = saved_number p.saved }

-- Calls that save these pieces in order, the last piece as the last chunk, each with code 0: what
-- each returned, and the detail that the last call reported.
abbrev pub SavesRun : (p : Payload) (pieces : List Bytes) (given : List Given) (detail : ℕ)
    → Type 0
SavesRun p [] given detail = given ≡ []
SavesRun p (chunk ∷ more) given detail =
    (new : Payload) × (after : Bytes) × (report : Report)
    × SavesNext p new chunk after (is_end more) report ok
    × (rest : List Given)
    × (given ≡ record { text = take report.len after; number = report.place } ∷ rest)
    × (is_end more ≡ true → detail ≡ report.detail)
    × SavesRun new more rest detail
