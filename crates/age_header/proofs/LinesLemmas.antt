-- Whole lines: a text has one list of lines, and no line of a header has an LF in it.
use Rattle.age_header.proofs.Common.{◌≡◌, ◌≤◌, List, [], ◌∷◌, ◌++◌, length, refl, arith, append_assoc, ◌≢◌, ℕ, ◌==◌, true, slice_index, sym, ◌∙◌, codes, flat_map, AllByRecursion, concat, append-nil, all_below, all_below_at, Bytes, IsLineText, lines_text, IsBase64, StandsFor, alphabet, AreArguments, IsArgument, IsVisible, not, eq-eqb, rules}

-- a line ends at its first LF
pub line_split : {a b x y : Bytes} → IsLineText a → IsLineText b → a ++ 10 ∷ x ≡ b ++ 10 ∷ y → (a ≡ b) × (x ≡ y)
line_split {a = []} {b = []} ha hb e = (refl, cc)
line_split {a = []} {b = b ∷ bs} ha hb e = absurd (hb.0 cc)
line_split {a = a ∷ az} {b = []} ha hb e = absurd (ha.0 cc)
line_split {a = a ∷ az} {b = b ∷ bs} {x} {y} ha hb e =
    let tail : az ++ 10 ∷ x ≡ bs ++ 10 ∷ y = cc in
    let (same, rest) = line_split {a = az} {b = bs} ha.1 hb.1 tail in (cc, rest)

-- of two lists of first lines of one text, the shorter is a prefix of the longer
pub lines_prefix : (ks ls : List Bytes) (x y : Bytes) → AllByRecursion IsLineText ks → AllByRecursion IsLineText ls
    → lines_text ks ++ x ≡ lines_text ls ++ y → length ks ≤ length ls
    → (more : List Bytes) × (ls ≡ ks ++ more) × (x ≡ lines_text more ++ y)
lines_prefix [] ls x y hk hl e n = (ls, refl, e)
lines_prefix (k ∷ ks) [] x y hk hl e n = absurd (omega arith)
lines_prefix (k ∷ ks) (l ∷ ls) x y hk hl e n =
    let (head, tail) = line_split hk.0 hl.0 (simp append_assoc at e) in
    let (more, same, rest) = lines_prefix ks ls x y hk.1 hl.1 tail (omega arith) in
    (more, cc, rest)

-- a text without an LF has no whole line
pub no_line : (more : List Bytes) (rest tail : Bytes) → IsLineText tail → tail ≡ lines_text more ++ rest → more ≡ []
no_line [] rest tail h e = refl
no_line (m ∷ more) rest tail h e = absurd (here m (lines_text more ++ rest) tail h (simp append_assoc at e))
  where
    here : (m x tail : Bytes) → IsLineText tail → tail ≡ m ++ 10 ∷ x → ⊥
    here [] x [] h e = cc
    here (d ∷ m) x [] h e = cc
    here [] x (c ∷ tail) h e = h.0 cc
    here (d ∷ m) x (c ∷ tail) h e = here m x tail h.1 cc

-- a text of whole lines has one list of lines
pub same_lines : (ks ls : List Bytes) → AllByRecursion IsLineText ks → AllByRecursion IsLineText ls
    → lines_text ks ≡ lines_text ls → ks ≡ ls
same_lines [] ls a b e = sym (no_line ls [] [] tt (e ∙ sym (append-nil (lines_text ls))))
same_lines ks [] a b e = no_line ks [] [] tt (sym e ∙ sym (append-nil (lines_text ks)))
same_lines (k ∷ ks) (l ∷ ls) a b e =
    let (head, tail) = line_split a.0 b.0 (simp append_assoc at e) in
    let rest = same_lines ks ls a.1 b.1 tail in
    cc

pub All-append : {X : Type 0} (P : X → Type 0) (xs ys : List X) → AllByRecursion P xs → AllByRecursion P ys
    → AllByRecursion P (xs ++ ys)
All-append P [] ys h k = k
All-append P (x ∷ xs) ys h k = (h.0, All-append P xs ys h.1 k)

pub All-split : {X : Type 0} (P : X → Type 0) (xs ys : List X) → AllByRecursion P (xs ++ ys)
    → AllByRecursion P xs × AllByRecursion P ys
All-split P [] ys h = (tt, h)
All-split P (x ∷ xs) ys h = let (front, back) = All-split P xs ys h.1 in ((h.0, front), back)

no_lf : {c v : ℕ} → StandsFor c v → c ≢ 10
unfolding alphabet
no_lf {v} (low, is) e =
    let table : all_below (λ k. not (slice_index alphabet k == 10)) 64 ≡ true = refl in
    let here = all_below_at (λ k. not (slice_index alphabet k == 10)) 64 v table low in
    cc (rw (eq-eqb (slice_index alphabet v) 10 (sym is ∙ e)) at here)

pub characters_text : (bytes characters : Bytes) → IsBase64 bytes characters → IsLineText characters
unfolding IsBase64
characters_text [] [] h = tt
characters_text (a ∷ []) (p ∷ q ∷ []) (u, v, is_p, is_q, low, bits) = (no_lf is_p, (no_lf is_q, tt))
characters_text (a ∷ b ∷ []) (p ∷ q ∷ r ∷ []) (u, v, w, is_p, is_q, is_r, low_a, low_b, bits) = search (rules, no_lf)
characters_text (a ∷ b ∷ c ∷ bytes) (p ∷ q ∷ r ∷ s ∷ characters)
    ((u, v, w, x, is_p, is_q, is_r, is_s, low_a, low_b, low_c, bits), more) =
    search (rules, no_lf, characters_text bytes characters more)
characters_text bytes characters h = absurd h

-- if lines, joined, have no LF, none of them has one
pub lines_of : (full : List Bytes) → IsLineText (concat full) → AllByRecursion IsLineText full
lines_of [] h = tt
lines_of (f ∷ full) h =
    let (first, rest) = All-split (λ c. c ≢ 10) f (concat full) h in (first, lines_of full rest)

visible_text : (a : Bytes) → AllByRecursion IsVisible a → IsLineText a
visible_text [] h = tt
visible_text (c ∷ a) h = (omega (arith, h.0.0), visible_text a h.1)

args_text : (args : List Bytes) → AllByRecursion IsArgument args → IsLineText (flat_map (λ a. 32 ∷ a) args)
args_text [] h = tt
args_text (a ∷ args) h = (omega arith, All-append (λ c. c ≢ 10) a _ (visible_text a h.0.1) (args_text args h.1))

-- the text of an argument line, less its LF
abbrev pub argument_text : List Bytes → Bytes
argument_text args = codes "->" ++ flat_map (λ a. 32 ∷ a) args

pub argument_line_text : (args : List Bytes) → AreArguments args → IsLineText (argument_text args)
argument_line_text args h = All-append (λ c. c ≢ 10) (codes "->") _ (omega arith) (args_text args h.1)
