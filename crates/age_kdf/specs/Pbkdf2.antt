-- PBKDF2-HMAC-SHA-256 (RFC 8018, section 5.2) on lists of bytes.
use Rattle.std.specs.Prelude.{ℕ, zero, suc, ◌+◌, ◌/◌, [], ◌++◌, take, replicate, bit_xor, ◌^◌, ◌-◌, ◌*◌}
use Rattle.std.specs.Int.{w32, to_be_bytes}
use Rattle.std.specs.Simd.Lanes.{zip2}
use Rattle.age_kdf.specs.Bytes.{Bytes}
use Rattle.age_kdf.specs.Hmac.{hmac}

-- U_(j+1): HMAC under the password, applied j times to U_1, the HMAC of the block's first text
unfoldable pub pbkdf2_round : (pass first : Bytes) (j : ℕ) → Bytes
pbkdf2_round pass first zero = hmac pass first
pbkdf2_round pass first (suc j) = hmac pass (pbkdf2_round pass first j)

-- U_1 xor U_2 xor .. xor U_c
unfoldable pub pbkdf2_sum : (pass first : Bytes) (c : ℕ) → Bytes
pbkdf2_sum pass first zero = replicate 32 0
pbkdf2_sum pass first (suc c) = zip2 bit_xor (pbkdf2_sum pass first c) (pbkdf2_round pass first c)

-- T_i = F(pass, salt, c, i): U_1 is the PRF of the salt and i in four big-endian bytes
abbrev pub pbkdf2_block : (pass salt : Bytes) (c i : ℕ) → Bytes
pbkdf2_block pass salt c i = pbkdf2_sum pass (salt ++ to_be_bytes w32 i) c

-- T_1 | T_2 | .. | T_n
unfoldable pub pbkdf2_blocks : (pass salt : Bytes) (c n : ℕ) → Bytes
pbkdf2_blocks pass salt c zero = []
pbkdf2_blocks pass salt c (suc n) = pbkdf2_blocks pass salt c n ++ pbkdf2_block pass salt c (n + 1)

-- the first len bytes of len / 32 blocks, rounded up
unfoldable pub pbkdf2 : (pass salt : Bytes) (c len : ℕ) → Bytes
pbkdf2 pass salt c len = take len (pbkdf2_blocks pass salt c ((len + 31) / 32))

-- the greatest number of blocks that four bytes can number
abbrev pub most_blocks : ℕ
most_blocks = 2 ^ 32 - 1

-- the longest output (step 1)
abbrev pub longest_output : ℕ
longest_output = most_blocks * 32
