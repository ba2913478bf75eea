-- Cutting a text into lists of one size and a last one, after bytes that are already held.
use Rattle.age_stream.proofs.Common.{◌≡◌, ◌↔◌, ℕ, List, [], ◌∷◌, ◌++◌, ◌+◌, ◌<◌, ◌≤◌, length, sym, ◌∙◌, ap, arith, nat_lt, cond, true, false, refl, append_assoc, length-append, subst, inl, inr, concat, le-ltb, lt-ltb, cases_lt, Bytes, cut_after, cut, IsCut, append-nil}
use Rattle.age_stream.specs.Cutting.{IsFilled}

-- bytes that fit are added to `held`
pub cut_fits : (size : ℕ) (held x r : Bytes) → length held + length x ≤ size
    → cut_after size held (x ++ r) ≡ cut_after size (held ++ x) r
cut_fits size held [] r le = ap (λ h. cut_after size h r) (sym (append-nil held))
cut_fits size held (b ∷ bs) r le =
    let l : length (held ++ b ∷ []) ≡ length held + 1 = length-append held (b ∷ []) in
    rw (lt-ltb (length held) size (omega arith), ← append_assoc held (b ∷ []) bs)
    (cut_fits size (held ++ b ∷ []) bs r (omega arith))

-- if `held` is full, the next byte begins a new list
pub cut_full : (size : ℕ) (held r : Bytes) → 0 < size → 0 < length r → length held ≡ size
    → cut_after size held r ≡ held ∷ cut size r
cut_full size held [] pos some full = absurd (omega arith)
cut_full size held (b ∷ r) pos some full = rw (le-ltb (length held) size (omega arith), lt-ltb 0 size pos)

-- a full list with more after it is the first of the cut
pub cut_first : (size : ℕ) (x r : Bytes) → 0 < size → 0 < length r → length x ≡ size
    → cut size (x ++ r) ≡ x ∷ cut size r
cut_first size x r pos some full = cut_fits size [] x r (omega arith) ∙ cut_full size x r pos some full

-- the cut of a text that fits into one list is that list
pub cut_last : (size : ℕ) (x : Bytes) → length x ≤ size → cut size x ≡ x ∷ []
cut_last size x le = ap (cut size) (sym (append-nil x)) ∙ cut_fits size [] x [] (omega arith)

-- filled lists hold at least one byte
pub filled_some : (size : ℕ) (cs : List Bytes) → 0 < size → IsFilled size cs → 0 < length (concat cs)
filled_some size [] pos h = absurd h
filled_some size (c ∷ []) pos h = omega (arith, h.0, length-append c [])
filled_some size (c ∷ d ∷ more) pos h = omega (arith, h.0, length-append c (concat (d ∷ more)))

-- filled lists are the cut of their join
pub filled_cut : (size : ℕ) (cs : List Bytes) → 0 < size → IsFilled size cs → cut size (concat cs) ≡ cs
filled_cut size [] pos h = absurd h
filled_cut size (c ∷ []) pos h = ap (cut size) (append-nil c) ∙ cut_last size c h.1
filled_cut size (c ∷ d ∷ more) pos h =
    cut_first size c (concat (d ∷ more)) pos (filled_some size (d ∷ more) pos h.1) h.0
    ∙ ap (λ t. c ∷ t) (filled_cut size (d ∷ more) pos h.1)

-- the lists of a cut, concatenated, are `held` and then the text
pub concat-cut_after : (size : ℕ) (held p : Bytes) → concat (cut_after size held p) ≡ held ++ p
concat-cut_after size held [] = refl
concat-cut_after size held (x ∷ xs) = grind (arith, nat_lt, cond, append_assoc, concat-cut_after size (held ++ x ∷ []) xs, concat-cut_after size (x ∷ []) xs)

-- a full list before filled lists: together they are filled
filled_more : (size : ℕ) (c : Bytes) (cs : List Bytes) → length c ≡ size → IsFilled size cs → IsFilled size (c ∷ cs)
filled_more size c [] e h = absurd h
filled_more size c (d ∷ more) e h = (e, h)

pub filled_cut_into : (size : ℕ) (held p : Bytes) → 0 < size → length held ≤ size → 0 < length held + length p
    → IsFilled size (cut_after size held p)
filled_cut_into size held [] pos le some = (omega arith, le)
filled_cut_into size held (x ∷ xs) pos le some =
    let l : length (held ++ x ∷ []) ≡ length held + 1 = length-append held (x ∷ []) in
    elim (cases_lt (length held) size) [
      | inl lt ↦ rw (lt-ltb (length held) size lt)
          (filled_cut_into size (held ++ x ∷ []) xs pos (omega arith) (omega arith))
      | inr ge ↦ rw (le-ltb (length held) size ge) (filled_more size held (cut_after size (x ∷ []) xs) (omega arith)
          (filled_cut_into size (x ∷ []) xs pos (omega arith) (omega arith)))
    ]

-- the lists that `cut` computes are a cut
pub is_cut : (size : ℕ) (p : Bytes) → 0 < size → IsCut size p (cut size p)
is_cut size [] pos = record { joined = refl; sizes = inl refl }
is_cut size (x ∷ xs) pos = grind (arith, concat-cut_after, filled_cut_into)

pub cut_is_unique : (size : ℕ) (p : Bytes) (cs : List Bytes) → 0 < size → IsCut size p cs → cs ≡ cut size p
cut_is_unique size p cs pos h = grind (arith, filled_cut)

pub one_cut_both : (size : ℕ) (p : Bytes) (cs : List Bytes) → 0 < size → IsCut size p cs ↔ (cs ≡ cut size p)
one_cut_both size p cs pos = (cut_is_unique size p cs pos, λ e. subst (IsCut size p) (sym e) (is_cut size p pos))

-- like `IsFilled`, but the last list may be empty
abbrev pub AtMost : ℕ → List Bytes → Type 0
AtMost size [] = ⊥
AtMost size (c ∷ []) = length c ≤ size
AtMost size (c ∷ d ∷ more) = (length c ≡ size) × AtMost size (d ∷ more)

filled_at_most : (size : ℕ) (cs : List Bytes) → IsFilled size cs → AtMost size cs
filled_at_most size [] h = h
filled_at_most size (c ∷ []) h = h.1
filled_at_most size (c ∷ d ∷ more) h = (h.0, filled_at_most size (d ∷ more) h.1)

pub cut_at_most : (size : ℕ) (p : Bytes) → 0 < size → AtMost size (cut size p)
cut_at_most size p pos = grind (arith, is_cut, filled_at_most, is_cut size p pos)
