-- The sixteen words of Salsa20/8 as four vectors, and the four steps of a quarter round on numbers.
use Rattle.std.specs.Prelude.{ℕ, ◌+◌, ◌%◌, List, [], ◌∷◌, slice_index, slice_index_or, bit_xor}
use Rattle.std.specs.Int.{w32, rotate_left}
use Rattle.age_kdf.specs.Bytes.{Words}
use Rattle.age_kdf.specs.Salsa.{add32}

-- one step: b xor R(a + d, k)
abbrev pub next_word : (b a d k : ℕ) → ℕ
next_word b a d k = bit_xor b (rotate_left w32 (add32 a d) k)

-- the words a, b, c and d after the four steps
unfoldable pub four_steps : (a b c d : ℕ) → ℕ × ℕ × ℕ × ℕ
four_steps a b c d =
    let b1 = next_word b a d 7 in
    let c1 = next_word c b1 a 9 in
    let d1 = next_word d c1 b1 13 in
    (next_word a d1 c1 18, b1, c1, d1)

-- the word in lane j of vector k
abbrev pub lane_word : (s : List Words) (k j : ℕ) → ℕ
lane_word s k j = slice_index (slice_index_or s k []) j

-- the sixteen words of four vectors, in the order x[0] to x[15]
abbrev pub words_in_order : List Words → Words
words_in_order s =
    lane_word s 0 0 ∷ lane_word s 3 1 ∷ lane_word s 2 2 ∷ lane_word s 1 3
    ∷ lane_word s 1 0 ∷ lane_word s 0 1 ∷ lane_word s 3 2 ∷ lane_word s 2 3
    ∷ lane_word s 2 0 ∷ lane_word s 1 1 ∷ lane_word s 0 2 ∷ lane_word s 3 3
    ∷ lane_word s 3 0 ∷ lane_word s 2 1 ∷ lane_word s 1 2 ∷ lane_word s 0 3 ∷ []

-- the four words of a vector, each moved down by n lanes, cyclically
abbrev pub rotation : (n : ℕ) (v : Words) → Words
rotation n v =
    slice_index v (n % 4) ∷ slice_index v ((n + 1) % 4) ∷ slice_index v ((n + 2) % 4)
    ∷ slice_index v ((n + 3) % 4) ∷ []
