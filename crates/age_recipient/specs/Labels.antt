-- Labels: which recipients go together.
use Rattle.std.specs.Prelude.{◌≡◌, ◌⊎◌, ℕ, Bool, false, not, List, [], ◌∷◌}
use Rattle.std.specs.Cmp.Lexicographic.{slice_cmp, pointwise}
use Rattle.std.specs.List.{list_any, position_from}
use Rattle.std.specs.List.Sorted.{IsStrictlySortedBy}
use Rattle.std.specs.Ordering.{nat_cmp}
use Rattle.std.specs.Str.{bytes_eq}
use Rattle.std.specs.declared.option.Option.{Option}
use Rattle.std.specs.declared.option.Option.TheVariants.{None}
use Rattle.age_kdf.specs.Bytes.{Bytes}
use Rattle.age_recipient.specs.declared.labels.Labels.{Labels}
use Rattle.age_recipient.specs.declared.labels.Labels.TheVariants.{Names}

-- the texts in byte order, each once
pub record IsSetOf (texts set : List Bytes) : Type 0 where
  pub ordered : IsStrictlySortedBy (slice_cmp nat_cmp) set
  pub members : (text : Bytes) → list_any (bytes_eq text) set ≡ list_any (bytes_eq text) texts

-- both are `Names` of the same set; `Alone` goes together with nothing
abbrev pub go_together : (a b : Labels) → Bool
go_together (Names a) (Names b) = pointwise bytes_eq a b
go_together _ _ = false

-- the first recipient, from number 1 on, whose labels do not go together with those of recipient 0
abbrev pub first_incompatible : List Labels → Option ℕ
first_incompatible [] = None
first_incompatible (first ∷ others) = position_from (λ other. not
    (go_together first other)) 1 others

-- the labels that a recipient with this meaning may return: those of its meaning, or no names,
-- which the method's default body returns
abbrev pub MayLabel : (meant labels : Labels) → Type 0
MayLabel meant labels = (labels ≡ Names []) ⊎ (labels ≡ meant)
