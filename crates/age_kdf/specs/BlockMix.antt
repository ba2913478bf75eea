-- scryptBlockMix (RFC 7914, section 4) on lists of words, 16 to a block of 64 bytes.
use Rattle.std.specs.Prelude.{ℕ, zero, suc, ◌+◌, ◌-◌, ◌*◌, [], ◌++◌, take, drop, bit_xor}
use Rattle.std.specs.Simd.Lanes.{zip2}
use Rattle.age_kdf.specs.Bytes.{Words}
use Rattle.age_kdf.specs.Salsa.{salsa8}

-- B[i]: block i of a list of words
abbrev pub block : (b : Words) (i : ℕ) → Words
block b i = take 16 (drop (16 * i) b)

-- X after i steps on the 2 * r blocks of b: first the last block, then Salsa20/8 of X xor B[i].
-- Y[i] is X after step i, that is after i + 1 steps.
unfoldable pub x_after : (r : ℕ) (b : Words) (i : ℕ) → Words
x_after r b zero = block b (2 * r - 1)
x_after r b (suc i) = salsa8 (zip2 bit_xor (x_after r b i) (block b i))

-- Y[0] Y[2] .., n of them
unfoldable pub evens : (r : ℕ) (b : Words) (n : ℕ) → Words
evens r b zero = []
evens r b (suc n) = evens r b n ++ x_after r b (2 * n + 1)

-- Y[1] Y[3] .., n of them
unfoldable pub odds : (r : ℕ) (b : Words) (n : ℕ) → Words
odds r b zero = []
odds r b (suc n) = odds r b n ++ x_after r b (2 * n + 2)

-- the even Y, then the odd ones
unfoldable pub block_mix : (r : ℕ) (b : Words) → Words
block_mix r b = evens r b r ++ odds r b r
