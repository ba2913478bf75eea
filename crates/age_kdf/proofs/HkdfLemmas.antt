-- HMAC: its block key and the length of its result; the blocks of HKDF.
use Rattle.age_kdf.proofs.Common.{◌≡◌, ℕ, zero, suc, ◌+◌, ◌*◌, [], ◌∷◌, ◌++◌, length, take, refl, append_assoc, length-append, Bytes, hmac, hkdf_block, hkdf_blocks, rules, ◌-◌, drop, replicate, ap, drop-replicate, length-sha256}

-- a key written over the first of 64 zeros is the key with zeros after it
pub zeros_behind : (key : Bytes) → key ++ drop (length key) (replicate 64 0) ≡ key ++ replicate (64 - length key) 0
zeros_behind key = ap (λ z. key ++ z) (drop-replicate (length key) 64 0)

-- a MAC has 32 bytes
pub length-hmac : (key text : Bytes) → length (hmac key text) ≡ 32
unfolding hmac
length-hmac key text = length-sha256 _

-- n blocks have 32 * n bytes
pub length-hkdf_blocks : (prk info : Bytes) (n : ℕ) → length (hkdf_blocks prk info n) ≡ 32 * n
unfolding hkdf_blocks hkdf_block
length-hkdf_blocks prk info zero = refl
length-hkdf_blocks prk info (suc n) = search (rules, length-append, length-hmac, length-hkdf_blocks prk info n)

-- one more block: its bytes, and the output up to it
pub hkdf_next : (out : Bytes) {block : Bytes} (prk info : Bytes) {last : Bytes} (i len : ℕ)
    → last ≡ hkdf_block prk info i
    → block ≡ hmac prk (last ++ (info ++ (i + 1) ∷ []))
    → take (32 * (i + 1)) out ≡ take len (hkdf_blocks prk info i ++ block)
    → record {
      out : take (32 * (i + 1)) out ≡ take len (hkdf_blocks prk info (i + 1));
      last : block ≡ hkdf_block prk info (i + 1);
    }
unfolding hkdf_block hkdf_blocks
hkdf_next out {block} prk info {last} i len last_is block-is out-is = search (rules, append_assoc)
