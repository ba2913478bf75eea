-- The stanzas and the labels of recipients, one recipient after the other.
use Rattle.age_file.proofs.Common.{◌≡◌, ℕ, ◌+◌, ◌<◌, ◌≤◌, List, [], ◌∷◌, ◌++◌, map, drop, length, get_or, sym, ◌∙◌, ap, refl, inl, inr, arith, Result, Ok, Err, append_assoc, append-nil, drop_all, drop_more, drop-map, length-map, AllZip, StanzaParts, WrapFault, WrapsAs, WrapsAll, Labels, MayLabel, first_incompatible, Fault, Refused, Gathered, Gathers, with_stanzas, gathering_from}
use Rattle.age_recipient.specs.declared.recipient.WrapFault.TheVariants.{Refused as RefusedBy}

-- the results of f from index i on begin with that of the item at index i
item_at : {A B : Type 0} (f : A → B) (xs : List A) (i : ℕ) (x : A) → i < length xs → x ≡ get_or xs i x
    → drop i (map f xs) ≡ f x ∷ drop (i + 1) (map f xs)
item_at f xs i x low is = grind (arith, drop-map, drop_more)

preceded_twice : (a b : List StanzaParts) (r : Result (List StanzaParts) Fault)
    → with_stanzas a (with_stanzas b r) ≡ with_stanzas (a ++ b) r
preceded_twice a b (Ok more) = ap Ok (sym (append_assoc a b more))
preceded_twice a b (Err fault) = refl

module _ {A : Type 0} (f : A → Result (List StanzaParts) ℕ) (xs : List A) {i : ℕ} (n : ℕ) {x : A}
    (low : i < length xs) (is : x ≡ get_or xs i x) where
  -- what the remaining recipients return, if the result of the first of them is known
  gathered_step : {a : Result (List StanzaParts) ℕ} → f x ≡ a
      → gathering_from n (drop i (map f xs)) ≡ gathering_from n (a ∷ drop (i + 1) (map f xs))
  gathered_step answer =
      ap (gathering_from n) (item_at f xs i x low is ∙ ap (λ y. y ∷ drop (i + 1) (map f xs)) answer)

  -- if the recipient at i returns stanzas, appending them to those before keeps the result of all
  pub gathered_more : (all : List StanzaParts) {stanzas joined : List StanzaParts}
      {target : Result (List StanzaParts) Fault} → f x ≡ Ok stanzas → joined ≡ all ++ stanzas
      → with_stanzas all (gathering_from n (drop i (map f xs))) ≡ target
      → with_stanzas joined (gathering_from (n + 1) (drop (i + 1) (map f xs))) ≡ target
  gathered_more all {stanzas} answer e h =
      let rest : Result (List StanzaParts) Fault = gathering_from (n + 1) (drop (i + 1) (map f xs)) in
      ap (λ t. with_stanzas t rest) e ∙ sym (preceded_twice all stanzas rest)
      ∙ ap (with_stanzas all) (sym (gathered_step answer)) ∙ h

  -- if the recipient at i refuses, its refusal is the result of all
  pub gathered_refused : (all : List StanzaParts) {code : ℕ} {target : Result (List StanzaParts) Fault}
      → f x ≡ Err code → with_stanzas all (gathering_from n (drop i (map f xs))) ≡ target
      → target ≡ Err (Refused n code)
  gathered_refused all answer h = sym h ∙ ap (with_stanzas all) (gathered_step answer)

pub refusal : {m : Result (List StanzaParts) ℕ} {fault : WrapFault} {code : ℕ} → fault ≡ RefusedBy code
    → WrapsAs m (Err fault) → m ≡ Err code
refusal e h = rw e at h

-- the labels of the recipients before number i, followed by labels of the others, are labels of all
abbrev pub Collected : {A : Type 0} (f : A → Labels) (xs : List A) (i : ℕ) (labels : List Labels) → Type 0
Collected f xs i labels =
    (rest : List Labels) → AllZip MayLabel (drop i (map f xs)) rest → AllZip MayLabel (map f xs) (labels ++ rest)

pub collects : {A : Type 0} (f : A → Labels) (xs : List A) {i : ℕ} {x : A} (l : Labels) (before : List Labels)
    {after : List Labels} → i < length xs → x ≡ get_or xs i x → MayLabel (f x) l
    → after ≡ before ++ l ∷ [] → Collected f xs i before → Collected f xs (i + 1) after
collects f xs {i} {x} l before low is may joined so = λ rest h.
    rw (joined, append_assoc) (so (l ∷ rest) (rw (item_at f xs i x low is) (may, h)))

pub collects_all : {A : Type 0} (f : A → Labels) (xs : List A) (i : ℕ) (labels : List Labels) → length xs ≤ i
    → Collected f xs i labels → AllZip MayLabel (map f xs) labels
collects_all f xs i labels end so =
    rw append-nil at (so [] (rw (drop_all i (map f xs) (omega (arith, length-map xs f, end))) tt))

as_meant : (meant : List Labels) → AllZip MayLabel meant meant
as_meant [] = tt
as_meant (m ∷ rest) = (inr refl, as_meant rest)

-- a fault of wrapping is the fault of gathering, whatever the labels
pub refused_first : (wrapped : List (Result (List StanzaParts) ℕ)) (meant : List Labels) (fault : Fault)
    → WrapsAll (gathering_from 0 wrapped) (Err fault)
    → Gathers (Gathered wrapped meant) (Err fault)
refused_first wrapped meant fault (inl memory) = inl memory
refused_first wrapped meant fault (inr (i, code, is, refused)) =
    inr (inl (i, code, is, (first_incompatible meant, (meant, as_meant meant, refl), rw refused refl)))
