-- The blocks of BlockMix, one by one.
use Rattle.age_kdf.proofs.Common.{◌≡◌, ℕ, suc, ◌+◌, ◌*◌, ◌≤◌, ◌++◌, length, take, drop, bit_xor, add-one, refl, zip2, take-put_mid, Words, put_mid, salsa8, x_after, evens, odds, rules}

-- X after one more step
pub mixed_next : (r : ℕ) (b : Words) {x out : Words} (i at next : ℕ) → x ≡ x_after r b i → at ≡ 16 * i → next ≡ suc i
    → out ≡ salsa8 (zip2 bit_xor x (take 16 (drop at b))) → out ≡ x_after r b next
unfolding x_after
mixed_next r b i at next is at_is after made = rw (made, is, at_is, after) refl

-- a block written after those that were written before
pub block_written : (out : Words) {prefix : Words} (x : Words) (at k : ℕ) {next : ℕ}
    → take at out ≡ prefix → length x ≡ 16 → next ≡ at + 16
    → at + 16 ≤ length out → take next (put_mid at k out x) ≡ prefix ++ x
block_written out x at k {next} is len after room = search (rules, take-put_mid)

-- one more even block
pub evens_next : (r : ℕ) (b : Words) {x all : Words} (i : ℕ) → all ≡ evens r b i ++ x → x ≡ x_after r b (2 * i + 1)
    → all ≡ evens r b (i + 1)
unfolding evens
evens_next r b i is x-is = rw (is, x-is, add-one i) refl

-- one more odd block
pub odds_next : (r : ℕ) (b : Words) {x all : Words} (i : ℕ) → all ≡ odds r b i ++ x → x ≡ x_after r b (2 * i + 2)
    → all ≡ odds r b (i + 1)
unfolding odds
odds_next r b i is x-is = rw (is, x-is, add-one i) refl
