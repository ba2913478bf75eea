-- HKDF-SHA-256 (RFC 5869) on lists of bytes.
use Rattle.std.specs.Prelude.{ℕ, zero, suc, ◌+◌, ◌*◌, ◌/◌, [], ◌∷◌, ◌++◌, take}
use Rattle.age_kdf.specs.Bytes.{Bytes}
use Rattle.age_kdf.specs.Hmac.{hmac}

-- T(i): HMAC(PRK, T(i-1) | info | i), where T(0) is empty (section 2.3)
unfoldable pub hkdf_block : (prk info : Bytes) (i : ℕ) → Bytes
hkdf_block prk info zero = []
hkdf_block prk info (suc i) = hmac prk (hkdf_block prk info i ++ info ++ (i + 1) ∷ [])

-- T(1) | T(2) | .. | T(n)
unfoldable pub hkdf_blocks : (prk info : Bytes) (n : ℕ) → Bytes
hkdf_blocks prk info zero = []
hkdf_blocks prk info (suc n) = hkdf_blocks prk info n ++ hkdf_block prk info (suc n)

-- HKDF-Expand of the key from HKDF-Extract, HMAC(salt, IKM): the first len bytes of len / 32
-- blocks, rounded up (sections 2.2 and 2.3)
unfoldable pub hkdf : (ikm salt info : Bytes) (len : ℕ) → Bytes
hkdf ikm salt info len = take len (hkdf_blocks (hmac salt ikm) info ((len + 31) / 32))

-- the longest output: 255 blocks of 32 bytes (section 2.3)
abbrev pub longest_output : ℕ
longest_output = 255 * 32
