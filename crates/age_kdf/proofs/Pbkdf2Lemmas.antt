-- The rounds and blocks of PBKDF2.
use Rattle.age_kdf.proofs.Common.{◌≡◌, ℕ, zero, suc, ◌+◌, ◌*◌, [], ◌∷◌, bit_xor, length, refl, ap₂, length-append, zip2, take_all, length-zip2, Bytes, hmac, pbkdf2, pbkdf2_sum, pbkdf2_round, pbkdf2_blocks, map, zip2_splat_left, rules}
use Rattle.age_kdf.proofs.HkdfLemmas.{length-hmac}

-- each round makes 32 bytes
length-pbkdf2_round : (pass first : Bytes) (j : ℕ) → length (pbkdf2_round pass first j) ≡ 32
unfolding pbkdf2_round
length-pbkdf2_round pass first zero = length-hmac pass first
length-pbkdf2_round pass first (suc j) = length-hmac pass (pbkdf2_round pass first j)

-- a sum of rounds has 32 bytes
length-pbkdf2_sum : (pass first : Bytes) (c : ℕ) → length (pbkdf2_sum pass first c) ≡ 32
unfolding pbkdf2_sum pbkdf2_round
length-pbkdf2_sum pass first zero = refl
length-pbkdf2_sum pass first (suc c) = search (rules, length-zip2, length-pbkdf2_round, length-pbkdf2_sum pass first c)

-- n blocks have 32 * n bytes
pub length-pbkdf2_blocks : (pass salt : Bytes) (c n : ℕ) → length (pbkdf2_blocks pass salt c n) ≡ 32 * n
unfolding pbkdf2_blocks
length-pbkdf2_blocks pass salt c zero = refl
length-pbkdf2_blocks pass salt c (suc n) =
    search (rules, length-append, length-pbkdf2_sum, length-pbkdf2_blocks pass salt c n)

-- an output that ends with block n is the n blocks
pub pbkdf2_whole : (pass salt : Bytes) (c n : ℕ) → pbkdf2 pass salt c (32 * n) ≡ pbkdf2_blocks pass salt c n
unfolding pbkdf2
pbkdf2_whole pass salt c n = search (rules, take_all, length-pbkdf2_blocks)

-- a function that changes no element changes no list
map_same : (f : ℕ → ℕ) → ((x : ℕ) → f x ≡ x) → (xs : Bytes) → map f xs ≡ xs
map_same f same [] = refl
map_same f same (x ∷ xs) = ap₂ ◌∷◌ (same x) (map_same f same xs)

-- U_1 is the sum of one round
pub first_sum : (pass first : Bytes) → hmac pass first ≡ pbkdf2_sum pass first 1
unfolding pbkdf2_sum pbkdf2_round
first_sum pass first = simp (zip2_splat_left, length-hmac, map_same)

-- one more round
pub next_sum : (pass first : Bytes) {sum last next out : Bytes} (j : ℕ) → sum ≡ pbkdf2_sum pass first (j + 1)
    → last ≡ pbkdf2_round pass first j → next ≡ hmac pass last → out ≡ zip2 bit_xor sum next
    → record { sum : out ≡ pbkdf2_sum pass first (j + 1 + 1); last : next ≡ pbkdf2_round pass first (j + 1) }
unfolding pbkdf2_sum pbkdf2_round
next_sum pass first {sum} {last} {next} j sum-is last_is next-is out-is = search (rules)
