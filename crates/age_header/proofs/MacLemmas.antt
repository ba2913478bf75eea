-- Two lists of bytes compared by the bits in which they differ.
use Rattle.age_header.proofs.Common.{◌≡◌, ℕ, [], ◌∷◌, ◌==◌, ◌&&◌, length, ◌∙◌, arith, rules, cases_Bool, common_steps, nat_tests, and_le_l, and_le_r, bytes_eq, Bytes}
use Rattle.std.specs.Int.Bits.{bit_or, bit_xor, xor_self, or_add_and, xor_add_and}
use Rattle.std.specs.Simd.Lanes.{fold_l, zip2}

pub none_differ : (a : ℕ) (xs ys : Bytes) → length xs ≡ length ys
    → (fold_l bit_or a (zip2 bit_xor xs ys) == 0) ≡ (a == 0) && bytes_eq xs ys
none_differ a [] [] long = search (rules, cases_Bool)
none_differ a (x ∷ xs) (y ∷ ys) long =
    let d = bit_xor x y in
    let step : (bit_or a d == 0) ≡ (a == 0) && (x == y) = grind
    (arith, nat_tests, common_steps, or_add_and a d, and_le_l a d, and_le_r a d, xor_add_and x y, and_le_l x y, and_le_r x y, xor_self x) in
    none_differ (bit_or a d) xs ys (omega arith) ∙ rw step (search (rules, cases_Bool))
none_differ a xs ys long = absurd (omega arith)
