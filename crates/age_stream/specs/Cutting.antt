-- Cutting a text into lists of one size and a last one (C2SP age.md, "Payload").
use Rattle.std.specs.Prelude.{ℕ, List, [], ◌∷◌, ◌++◌, ◌<◌, ◌≤◌, ◌≡◌, ◌⊎◌, length, nat_lt, if◌then◌else◌}
use Rattle.std.specs.List.{concat}
use Rattle.age_kdf.specs.Bytes.{Bytes}

-- at least one list; each has `size` bytes, except the last, which has 1 to `size`
abbrev pub IsFilled : (size : ℕ) (parts : List Bytes) → Type 0
IsFilled size [] = ⊥
IsFilled size (c ∷ []) = (0 < length c) × (length c ≤ size)
IsFilled size (c ∷ d ∷ more) = (length c ≡ size) × IsFilled size (d ∷ more)

-- the lists, concatenated, are the text; they are filled, or one empty list for an empty text
pub record IsCut (size : ℕ) (text : Bytes) (lists : List Bytes) : Type 0 where
  pub joined : concat lists ≡ text
  pub sizes : (lists ≡ [] ∷ []) ⊎ IsFilled size lists

-- the cut of `held` and then the text, if `size` is above 0 and `held` has at most `size` bytes
abbrev pub cut_after : (size : ℕ) (held text : Bytes) → List Bytes
cut_after size held [] = held ∷ []
cut_after size held (x ∷ text) =
    if nat_lt (length held) size then cut_after size (held ++ x ∷ []) text
    else held ∷ cut_after size (x ∷ []) text

-- the one cut of a text, if `size` is above 0
abbrev pub cut : (size : ℕ) (text : Bytes) → List Bytes
cut size text = cut_after size [] text
