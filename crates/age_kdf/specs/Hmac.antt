-- HMAC-SHA-256 (RFC 2104, with the hash function of RFC 6234) on lists of bytes.
use Rattle.std.specs.Prelude.{ℕ, ◌-◌, ◌++◌, length, replicate, map, bit_xor, nat_le, if◌then◌else◌}
use Rattle.age_kdf.specs.Bytes.{Bytes}
use Rattle.sha2.specs.Sha256.{sha256}

-- the key, hashed first if it is longer than a block of 64 bytes (RFC 2104, section 2)
abbrev pub short_key : Bytes → Bytes
short_key key = if nat_le (length key) 64 then key else sha256 key

-- K: the short key followed by zeros, 64 bytes in all
abbrev pub block_key : Bytes → Bytes
block_key key = short_key key ++ replicate (64 - length (short_key key)) 0

-- K XOR the pad that repeats one byte
abbrev pub padded_key : (key : Bytes) (byte : ℕ) → Bytes
padded_key key byte = map (λ k. bit_xor k byte) (block_key key)

-- H(K XOR opad, H(K XOR ipad, text)), where opad repeats 0x5c and ipad 0x36 (RFC 2104, section 2)
unfoldable pub hmac : (key text : Bytes) → Bytes
hmac key text = sha256 (padded_key key 0x5c ++ sha256 (padded_key key 0x36 ++ text))
