-- The rows of the table, and the row that the last block of X names.
use Rattle.age_kdf.proofs.Common.{◌≡◌, ℕ, ◌+◌, ◌*◌, ◌-◌, ◌%◌, ◌^◌, ◌<◌, ◌≤◌, [], ◌∷◌, length, take, drop, get_or, bit_xor, refl, sym, ap, ◌∙◌, arith, add-one, zip2, get_or-chunk, take-put_mid, Words, put_mid, block_mix, v_at, romix_after, number_l, drop-take, drop_at, length-take-le, take-put_mid_below, add-mul-mod_self_left, mul_assoc, mul-le-mul_left, pow-add, mod_below, pow_pos, integerify, common_steps, rules}

-- a row that was just written
pub row_here : (at size k : ℕ) (xs ys : Words) → length ys ≡ size → at ≤ length xs
    → take size (drop at (put_mid at k xs ys)) ≡ ys
row_here at size k xs ys len room = grind (arith, common_steps, drop-take, take-put_mid, drop_at, length-take-le)

-- a row before the one that was written
pub row_below : (a : ℕ) {at : ℕ} (size k : ℕ) (xs ys : Words) → a + size ≤ at → at ≤ length xs
    → take size (drop a (put_mid at k xs ys)) ≡ take size (drop a xs)
row_below a {at} size k xs ys before room =
    sym (drop-take a size (put_mid at k xs ys))
    ∙ ap (drop a) (take-put_mid_below at k xs ys (a + size) before room)
    ∙ drop-take a size xs

-- a row before row i ends where row i begins or before
pub rows_apart : (size i j : ℕ) → j < i → size * j + size ≤ size * i
rows_apart size i j less = omega (arith, mul-le-mul_left size less)

-- modulo a power of two up to 2 ^ 32 a number is its lowest word
low_word : (k : ℕ) (ws : Words) → k ≤ 32 → number_l (2 ^ 32) ws % 2 ^ k ≡ get_or ws 0 0 % 2 ^ k
low_word k [] h = refl
low_word k (w ∷ ws) h =
    let whole : 32 ≡ k + (32 - k) = omega arith in
    let split : 2 ^ 32 ≡ 2 ^ k * 2 ^ (32 - k) = ap (λ e. 2 ^ e) whole ∙ pow-add 2 k (32 - k) in
    let rest = number_l (2 ^ 32) ws in
    ap (λ p. (w + p * rest) % 2 ^ k) split
    ∙ rw mul_assoc (add-mul-mod_self_left w (2 ^ k) (2 ^ (32 - k) * rest))

-- the first word of the last block modulo N is Integerify(X) modulo N
pub index_is : (r k : ℕ) (x : Words) → 0 < r → k ≤ 32 → get_or x (32 * r - 16) 0 % 2 ^ k ≡ integerify r (2 ^ k) x
index_is r k x pos h = grind (arith, common_steps, low_word, get_or-chunk)

-- one turn of the second loop
pub look_turn : {r k : ℕ} (m : ℕ) {len n : ℕ} (b : Words) {x x1 x2 : Words} (table : Words) → 0 < r → k ≤ 32
    → len ≡ 32 * r → n ≡ 2 ^ k
    → x ≡ romix_after r (2 ^ k) b m
    → ((j : ℕ) → j < 2 ^ k → take (32 * r) (drop (32 * r * j) table) ≡ v_at r b j)
    → x1 ≡ zip2 bit_xor x (take len (drop (len * (get_or x (32 * r - 16) 0 % n)) table))
    → x2 ≡ block_mix r x1 → x2 ≡ romix_after r (2 ^ k) b (m + 1)
unfolding romix_after
look_turn {r} {k} m {len} {n} b {x} table pos low len-is n-is x-is rows x1-is x2-is =
    search (rules, mod_below, pow_pos, index_is, add-one)

pub ruleset put_row = (row_here, row_below, rows_apart)
