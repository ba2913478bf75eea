-- Sets of texts: their order, which texts are in them, and which sets go together.
use Rattle.age_recipient.proofs.Common.{◌≡◌, ℕ, true, ◌+◌, ◌<◌, List, [], ◌∷◌, map, take, length, get_or, sym, ◌∙◌, ap, refl, list_any, bytes_eq, string_bytes, string_cmp, Bytes, Names, Bool, false, cond, not, ◌||◌, Option, Bor, String, true≢false, lists_equiv, list_any_more, is_eq-slice_cmp, is_at, nat_eq_equiv, pointwise-map, slice_cmp, pointwise, Global, AllByRecursion, AllZip, position_from, IsStrictlySortedBy, nat_cmp, string_eq, Less, Labels, IsSetOf, go_together, common_steps, arith}

below_all : (x : String Global) (ks : List (String Global)) → AllByRecursion (λ y. string_cmp x y ≡ Less) ks
    → AllByRecursion (λ b. slice_cmp nat_cmp (string_bytes x) b ≡ Less) (map string_bytes ks)
below_all x [] h = tt
below_all x (k ∷ ks) h = (h.0, below_all x ks h.1)

-- if strings are in order, so are their bytes
pub ordered_bytes : (ks : List (String Global)) → IsStrictlySortedBy string_cmp ks
    → IsStrictlySortedBy (slice_cmp nat_cmp) (map string_bytes ks)
unfolding IsStrictlySortedBy
ordered_bytes [] h = tt
ordered_bytes (k ∷ ks) h = (below_all k ks h.0, ordered_bytes ks h.1)

-- a look-up among strings is one among their bytes
pub any_bytes : (text : Bytes) (ks : List (String Global))
    → list_any (bytes_eq text) (map string_bytes ks)
    ≡ list_any (is_at (λ k. slice_cmp nat_cmp text (string_bytes k))) ks
any_bytes text [] = refl
any_bytes text (k ∷ ks) = rw (is_eq-slice_cmp text (string_bytes k), any_bytes text ks) refl

or_last : (a b : Bool) → cond a true b ≡ (b || a)
or_last a b = grind arith

bytes_eq_sym : (a b : Bytes) → bytes_eq a b ≡ bytes_eq b a
bytes_eq_sym a b = (lists_equiv nat_eq_equiv).symm a b

-- whether a text is among the first i + 1, from whether it is among the first i
pub one_more : (texts : List (Bor Bytes)) {i : ℕ} (d : Bor Bytes) {bytes : Bytes} (text : Bytes) {old new : Bool}
    → i < length texts → bytes ≡ (get_or texts i d).now
    → new ≡ cond (bytes_eq bytes text) true old → old ≡ list_any (λ t. bytes_eq text t.now) (take i texts)
    → new ≡ list_any (λ t. bytes_eq text t.now) (take (i + 1) texts)
one_more texts {i} d {bytes} text {old} low is now before =
    grind (arith, common_steps, bytes_eq_sym, or_last, list_any_more)

-- a text is among borrowed texts exactly if it is among the texts themselves
pub any_now : (text : Bytes) (texts : List (Bor Bytes))
    → list_any (λ t. bytes_eq text t.now) texts ≡ list_any (bytes_eq text) (map (λ t. t.now) texts)
any_now text [] = refl
any_now text (t ∷ ts) = ap (λ b. bytes_eq text t.now || b) (any_now text ts)

-- comparing the strings of two sets of names tells whether they go together
pub names_together : {self other : Labels} {a b : List Bytes} (xs ys : List (String Global)) {r : Bool} → self ≡ Names a
    → other ≡ Names b
    → map string_bytes xs ≡ a → map string_bytes ys ≡ b → r ≡ pointwise string_eq xs ys → r ≡ go_together self other
names_together {a} xs ys left right of_xs of_ys is =
    rw (left, right) (is ∙ sym (pointwise-map string_bytes bytes_eq xs ys)
    ∙ ap (λ l. pointwise bytes_eq l (map string_bytes ys)) of_xs ∙ ap (pointwise bytes_eq a) of_ys)

-- the set of no texts is empty
pub no_texts : (set : List Bytes) → IsSetOf [] set → set ≡ []
no_texts [] is = refl
no_texts (text ∷ rest) is =
    let here : (bytes_eq text text || list_any (bytes_eq text) rest) ≡ false = is.members text in
    absurd (true≢false (sym (ap (λ b. b || list_any (bytes_eq text) rest) ((lists_equiv nat_eq_equiv).refl text))
    ∙ here))

-- a copy of strings has the same bytes
pub same_bytes : (ks copies : List (String Global)) → AllZip (λ s t. string_bytes t ≡ string_bytes s) ks copies
    → map string_bytes copies ≡ map string_bytes ks
same_bytes [] [] h = refl
same_bytes [] (c ∷ cs) h = absurd h
same_bytes (k ∷ ks) [] h = absurd h
same_bytes (k ∷ ks) (c ∷ cs) h = rw (h.0, same_bytes ks cs h.1) refl

-- the index, counted from k, of the first in the list that does not go together with `first`
abbrev pub incompatible_from : Labels → ℕ → List Labels → Option ℕ
incompatible_from first k others = position_from (λ other. not (go_together first other)) k others
