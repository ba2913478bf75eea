-- The rounds of Salsa20/8 lane by lane.
use Rattle.age_kdf.proofs.Common.{◌≡◌, ℕ, ◌-◌, ◌*◌, ◌/◌, ◌%◌, ◌^◌, ◌<◌, [], ◌∷◌, length, replicate, slice_index, arith, refl, ap, ◌∙◌, w32, zip2, get_or-zip2, length-zip2, Words, quarter, columns, rows, four_steps, words_in_order, bit_or, rotate_left, get_or-replicate, rotation, rules}

-- two shifts of each lane and an or rotate it
pub shifts_rotate : (x : Words) (k j : ℕ) → length x ≡ 4 → 0 < k → k < 32 → j < 4
    → slice_index (zip2 bit_or (zip2 (λ a n. a * 2 ^ n % 2 ^ 32) x (replicate 4 k))
    (zip2 (λ a n. a / 2 ^ n) x (replicate 4 (32 - k)))) j
    ≡ rotate_left w32 (slice_index x j) k
shifts_rotate x k j long low high inside =
    let shifted : (f : ℕ → ℕ → ℕ) (n : ℕ) → slice_index (zip2 f x (replicate 4 n)) j ≡ f (slice_index x j) n =
    λ f n. get_or-zip2 f x (replicate 4 n) j 0 0 0 (omega arith) inside
    ∙ ap (f (slice_index x j)) (get_or-replicate 4 j n 0 inside) in
    let here : (f : ℕ → ℕ → ℕ) (n : ℕ) → j < length (zip2 f x (replicate 4 n)) =
    λ f n. omega (arith, length-zip2 f x (replicate 4 n) long) in
    let whole : k % 32 ≡ k = omega arith in
    let rest : (32 - k) % 32 ≡ 32 - k = omega arith in
    get_or-zip2 bit_or _ _ j 0 0 0 (here _ k) (here _ (32 - k)) ∙ rw (shifted _ k, shifted _ (32 - k), whole, rest) refl

-- the vectors e to h are a to d after the four steps in every lane
abbrev pub AreQuartered : Words → Words → Words → Words → Words → Words → Words → Words → Type 0
AreQuartered a b c d e f g h = (j : ℕ) → j < 4
    → (slice_index e j, slice_index f j, slice_index g j, slice_index h j)
    ≡ four_steps (slice_index a j) (slice_index b j) (slice_index c j) (slice_index d j)

-- the steps in every lane are those on the columns
pub columns_spread : (a b c d e f g h : Words) → AreQuartered a b c d e f g h
    → words_in_order (e ∷ f ∷ g ∷ h ∷ []) ≡ columns (words_in_order (a ∷ b ∷ c ∷ d ∷ []))
unfolding columns quarter four_steps
columns_spread a b c d e f g h q = search (rules)

-- the steps in every lane, on lanes moved before and moved back after, are those on the rows
pub rows_spread : (a b c d e f g h : Words) → AreQuartered a (rotation 1 d) (rotation 2 c) (rotation 3 b) e f g h
    → words_in_order (e ∷ rotation 1 h ∷ rotation 2 g ∷ rotation 3 f ∷ []) ≡ rows (words_in_order (a ∷ b ∷ c ∷ d ∷ []))
unfolding rows quarter four_steps
rows_spread a b c d e f g h q = search (rules)
