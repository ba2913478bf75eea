-- The labels of passphrase and keyed recipients.
use Rattle.age_file.proofs.Common.{◌≡◌, ℕ, ◌+◌, zero, suc, not, List, [], ◌∷◌, ◌++◌, replicate, ◌∙◌, ap, refl, inl, inr, arith, Option, Some, None, add-one, AllZip, position_from, Labels, Alone, Names, MayLabel, go_together, first_incompatible, IsIncompatible}

pub one_index : (meant : Labels) (index : Option ℕ) → IsIncompatible (meant ∷ []) index → index ≡ None
one_index a b c = grind arith

-- a recipient without names goes together with all others that have none
none_incompatible : (n k : ℕ) → position_from (λ other. not (go_together (Names []) other)) k (replicate n (Names []))
    ≡ None
none_incompatible zero k = refl
none_incompatible (suc n) k = none_incompatible n (k + 1)

unnamed : (n : ℕ) (labels : List Labels) → AllZip MayLabel (replicate n (Names [])) labels
    → labels ≡ replicate n (Names [])
unnamed zero [] may = refl
unnamed zero (l ∷ labels) may = absurd may
unnamed (suc n) [] may = absurd may
unnamed (suc n) (l ∷ labels) (inl is, may) = rw (is, unnamed n labels may) refl
unnamed (suc n) (l ∷ labels) (inr is, may) = rw (is, unnamed n labels may) refl

none_of : (n : ℕ) → first_incompatible (replicate n (Names [])) ≡ None
none_of zero = refl
none_of (suc n) = none_incompatible n 1

pub keyed_index : (n : ℕ) (index : Option ℕ) → IsIncompatible (replicate n (Names [])) index → index ≡ None
keyed_index n index (labels, may, is) = is ∙ ap first_incompatible (unnamed n labels may) ∙ none_of n

alone_from : (n k : ℕ) (others : List Labels)
    → position_from (λ other. not (go_together (Names []) other)) k (replicate n (Names []) ++ Alone ∷ others)
    ≡ Some (n + k)
alone_from zero k others = ap Some (omega arith)
alone_from (suc n) k others = alone_from n (k + 1) others ∙ ap Some (omega arith)

pub alone_after : (n : ℕ) (others : List Labels)
    → first_incompatible (replicate (n + 1) (Names []) ++ Alone ∷ others) ≡ Some (n + 1)
alone_after n others = ap (λ k. first_incompatible (replicate k (Names []) ++ Alone ∷ others)) (add-one n)
    ∙ alone_from n 1 others

pub ruleset own_recipients = (one_index, alone_after)
