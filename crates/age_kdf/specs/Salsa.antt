-- The Salsa20/8 core (RFC 7914, section 3) on lists of 16 words. A word is a number below 2 ^ 32.
use Rattle.std.specs.Prelude.{ℕ, zero, suc, ◌+◌, ◌%◌, ◌^◌, slice_index, slice_set, bit_xor}
use Rattle.std.specs.Int.{w32, rotate_left}
use Rattle.std.specs.Simd.Lanes.{zip2}
use Rattle.age_kdf.specs.Bytes.{Words}

-- the sum of two words, with the carry dropped
abbrev pub add32 : (x y : ℕ) → ℕ
add32 x y = (x + y) % 2 ^ 32

-- x[b] ^= R(x[a] + x[d], k), where R rotates to the left
abbrev pub step : (x : Words) (b a d k : ℕ) → Words
step x b a d k =
    let sum = add32 (slice_index x a) (slice_index x d) in
    slice_set x b (bit_xor (slice_index x b) (rotate_left w32 sum k))

-- the four steps on indices a, b, c, d
unfoldable pub quarter : (a b c d : ℕ) (x : Words) → Words
quarter a b c d x =
    let x1 = step x b a d 7 in
    let x2 = step x1 c b a 9 in
    let x3 = step x2 d c b 13 in
    step x3 a d c 18

-- the first half of a double round, on the columns of the words read as a square
unfoldable pub columns : Words → Words
columns x = quarter 15 3 7 11 (quarter 10 14 2 6 (quarter 5 9 13 1 (quarter 0 4 8 12 x)))

-- the second half of a double round, on the rows
unfoldable pub rows : Words → Words
rows x = quarter 15 12 13 14 (quarter 10 11 8 9 (quarter 5 6 7 4 (quarter 0 1 2 3 x)))

-- n double rounds
unfoldable pub double_rounds : (n : ℕ) (x : Words) → Words
double_rounds zero x = x
double_rounds (suc n) x = rows (columns (double_rounds n x))

-- the words plus the words after four double rounds
unfoldable pub salsa8 : Words → Words
salsa8 x = zip2 add32 x (double_rounds 4 x)
