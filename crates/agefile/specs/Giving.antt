-- The results of calls that write a text to the caller's buffer, and the answers of one identity.
use Rattle.std.specs.Prelude.{◌≡◌, ◌⊎◌, ◌<◌, ◌≤◌, ◌++◌, ◌∷◌}
use Rattle.agefile.specs.Words.{ℕ, List, [], length, drop, Option, None, Bytes, StanzaParts, Unwrapped, Fault, Answering, Report}
use Rattle.agefile.specs.Codes.{code_of, too_small}
use Rattle.agefile.specs.Report.{report_of}

-- the buffer begins with the text, the rest is unchanged; text length and any fault are reported
pub record Fits (text : Bytes) (fault : Option Fault) (old new : Bytes) (report : Report)
    (code : ℕ) : Type 0 where
  pub fits : length text ≤ length old
  pub returned : code ≡ code_of fault
  pub reported : report ≡ report_of (length text) fault
  pub buffer : new ≡ text ++ drop (length text) old

-- the buffer is too small for `len` bytes and is unchanged; the report has this number alone
pub record Exceeds (len : ℕ) (old new : Bytes) (report : Report) (code : ℕ) : Type 0 where
  pub exceeds : length old < len
  pub returned : code ≡ too_small
  pub reported : report ≡ report_of len None
  pub buffer : new ≡ old

-- the text and any fault after it are returned if the text fits the buffer, else its length alone
abbrev pub Gives : (text : Bytes) (fault : Option Fault) (old new : Bytes) (report : Report)
    (code : ℕ) → Type 0
Gives text fault old new report code =
    Fits text fault old new report code ⊎ Exceeds (length text) old new report code

-- the answers of a single identity with this meaning
abbrev pub one_answer : (List StanzaParts → Unwrapped) → Answering
one_answer meaning = λ stanzas. meaning stanzas ∷ []
