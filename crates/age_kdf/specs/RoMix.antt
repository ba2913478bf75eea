-- scryptROMix (RFC 7914, section 5) on lists of 32 * r words; n is the cost N. There is no table.
-- The RFC's ROMix works on octets; here `scrypt` converts them once before it and once after it.
use Rattle.std.specs.Prelude.{ℕ, zero, suc, ◌-◌, ◌*◌, ◌%◌, ◌^◌, bit_xor}
use Rattle.std.specs.Simd.Lanes.{zip2, number_l}
use Rattle.age_kdf.specs.Bytes.{Words}
use Rattle.age_kdf.specs.BlockMix.{block, block_mix}

-- V[i]: BlockMix applied i times
unfoldable pub v_at : (r : ℕ) (b : Words) (i : ℕ) → Words
v_at r b zero = b
v_at r b (suc i) = block_mix r (v_at r b i)

-- Integerify(X) mod N: the last block of X as one number in little-endian order
abbrev pub integerify : (r n : ℕ) (x : Words) → ℕ
integerify r n x = number_l (2 ^ 32) (block x (2 * r - 1)) % n

-- X after k iterations of the second loop: X = BlockMix(X xor V[Integerify(X) mod N])
unfoldable pub romix_after : (r n : ℕ) (b : Words) (k : ℕ) → Words
romix_after r n b zero = v_at r b n
romix_after r n b (suc k) =
    let x = romix_after r n b k in
    block_mix r (zip2 bit_xor x (v_at r b (integerify r n x)))

-- X after N iterations
abbrev pub romix : (r n : ℕ) (b : Words) → Words
romix r n b = romix_after r n b n
