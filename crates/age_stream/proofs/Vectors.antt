-- The payload of a file written by the program `age` (tests/data/passphrase.age), computed from the
-- definitions: with a wrong label, or another layout of a nonce, `payload_is` does not check.
use Rattle.std.proofs.Common.{◌≡◌, ◌∷◌, ◌++◌, [], refl}
use Rattle.std.specs.Prelude.{codes}
use Rattle.sha2.specs.Sha256.{sha256, digest_bytes, hash_after, compress, rounds, schedule, first_words}
use Rattle.age_cipher.specs.ChaCha20.{add_xor_rotate, quarter_round, double_round, ten_double_rounds, start, block_words, block, xored_text}
use Rattle.age_cipher.specs.Poly1305.{block_at, block_sum, poly1305}
use Rattle.age_cipher.specs.Sealing.{tag_of, sealed_text}
use Rattle.age_kdf.specs.Bytes.{Bytes}
use Rattle.age_kdf.specs.Hmac.{hmac}
use Rattle.age_kdf.specs.Hkdf.{hkdf, hkdf_block, hkdf_blocks}
use Rattle.age_header.specs.declared.file_key.FileKey.{FileKey}
use Rattle.age_stream.specs.Payload.{chunk_nonce, payload, payload_key}

key : FileKey
key = record {
  0 =
      0x37 ∷ 0xb8 ∷ 0xcd ∷ 0x1e ∷ 0xa4 ∷ 0xc3 ∷ 0x88 ∷ 0x0f ∷ 0x88 ∷ 0x70 ∷ 0x82 ∷ 0x57 ∷ 0xeb ∷ 0xa9 ∷ 0x2b ∷ 0x40 ∷
      [];
}

nonce : Bytes
nonce =
    0x63 ∷ 0x58 ∷ 0x5c ∷ 0x42 ∷ 0x77 ∷ 0x81 ∷ 0x33 ∷ 0x77 ∷ 0xa4 ∷ 0xe0 ∷ 0x3a ∷ 0x40 ∷ 0x48 ∷ 0xa8 ∷ 0x09 ∷ 0xd0 ∷
    []

sealed : Bytes
sealed =
    0x49 ∷ 0x0d ∷ 0x59 ∷ 0xa4 ∷ 0xfa ∷ 0xea ∷ 0x95 ∷ 0xc3 ∷ 0xf4 ∷ 0x6c ∷ 0x07 ∷ 0x73 ∷ 0x5a ∷ 0x47 ∷ 0xaa ∷ 0x3d ∷
    0xf1 ∷ 0x13 ∷ 0xe4 ∷ 0xfc ∷ 0x6b ∷ 0xaa ∷ []

payload_is : payload key nonce (codes "hello\n") ≡ nonce ++ sealed
unfolding key nonce sealed payload_key chunk_nonce sealed_text tag_of poly1305 block_sum block_at xored_text block
    block_words start ten_double_rounds double_round quarter_round add_xor_rotate hkdf hkdf_blocks hkdf_block hmac
    sha256 digest_bytes hash_after compress rounds schedule first_words
payload_is = refl
