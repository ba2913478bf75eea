-- The lines of a header between the version line and the end line, one after another.
use Rattle.std.specs.Prelude.{◌≡◌, ◌<◌, List, [], ◌∷◌, ◌++◌, length}
use Rattle.age_kdf.specs.Bytes.{Bytes}
use Rattle.age_header.specs.Base64.{IsBase64}
use Rattle.age_header.specs.Header.{StanzaParts, AreArguments, IsFullLine, argument_line, line, line_size}

-- the complete stanzas and, within an incomplete stanza, its arguments and the body's bytes so far
pub data State : Type 0 where
  between : List StanzaParts → State
  within : List StanzaParts → List Bytes → Bytes → State

-- a line l leads from one state to the next
abbrev pub Step : (s : State) (l : Bytes) (t : State) → Type 0
Step (between ss) l (between ts) = ⊥
Step (between ss) l (within ts args body) =
    (ts ≡ ss) × (body ≡ []) × AreArguments args × (line l ≡ argument_line args)
Step (within ss args body) l (within ts args' body') =
    (more : Bytes) × (ts ≡ ss) × (args' ≡ args) × IsFullLine l × IsBase64 more l
    × (body' ≡ body ++ more)
Step (within ss args body) l (between ts) =
    (more : Bytes) × (length l < line_size) × IsBase64 more l
    × (ts ≡ ss ++ record { args = args; body = body ++ more } ∷ [])

-- these lines, in order, lead from the state s to t
abbrev pub Leads : (s : State) (lines : List Bytes) (t : State) → Type 0
Leads s [] t = s ≡ t
Leads s (l ∷ ls) t = (m : State) × Step s l m × Leads m ls t
