use Rattle.age_recipient.proofs.Common.{◌≡◌, ◌+◌, drop}
use Rattle.age_recipient.proofs.LabelLemmas.{incompatible_from}
use Rattle.age_recipient.proofs.labels.first_incompatible.Given as goal

-- the search from index i of the others on has the result of the whole search
abbrev pub invariant-loop-i : goal.invariant-loop-i
invariant-loop-i l = incompatible_from l.first 1 l.others ≡ incompatible_from l.first (l.i + 1) (drop l.i l.others)
