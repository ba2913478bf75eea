-- The MAC of a header written by the program `age` (tests/data/passphrase.age), computed from the
-- definitions: with a wrong label, or another layout of a header, the proof at the end fails.
use Rattle.std.proofs.Common.{◌≡◌, ◌∷◌, [], refl}
use Rattle.std.specs.Prelude.{List, codes}
use Rattle.sha2.specs.Sha256.{sha256, digest_bytes, hash_after, compress, rounds, schedule, first_words}
use Rattle.base64.specs.Rfc4648.{encode_symbols}
use Rattle.age_kdf.specs.Bytes.{Bytes}
use Rattle.age_kdf.specs.Hmac.{hmac}
use Rattle.age_kdf.specs.Hkdf.{hkdf, hkdf_block, hkdf_blocks}
use Rattle.age_header.specs.Base64.{alphabet, base64_of}
use Rattle.age_header.specs.Header.{StanzaParts, version_line}
use Rattle.age_header.specs.Mac.{header_mac}
use Rattle.age_header.specs.Text.{body_lines, body_text, signed_text, stanza_text}

file_key : Bytes
file_key =
    0x37 ∷ 0xb8 ∷ 0xcd ∷ 0x1e ∷ 0xa4 ∷ 0xc3 ∷ 0x88 ∷ 0x0f ∷ 0x88 ∷ 0x70 ∷ 0x82 ∷ 0x57 ∷ 0xeb ∷ 0xa9 ∷ 0x2b ∷ 0x40 ∷
    []

stanzas : List StanzaParts
stanzas = record {
  args = codes "scrypt" ∷ codes "loABIY+WayWGShmB4h1/bw" ∷ codes "18" ∷ [];
  body =
      0xfa ∷ 0x87 ∷ 0x1f ∷ 0x34 ∷ 0xa3 ∷ 0x2c ∷ 0x47 ∷ 0x83 ∷ 0xa0 ∷ 0x21 ∷ 0xe3 ∷ 0x61 ∷ 0x4e ∷ 0x6d ∷ 0xdc ∷ 0x97 ∷
      0xec ∷ 0x05 ∷ 0xc0 ∷ 0x20 ∷ 0xb0 ∷ 0xd5 ∷ 0x88 ∷ 0xaa ∷ 0x4d ∷ 0x0d ∷ 0xb2 ∷ 0xd7 ∷ 0xa5 ∷ 0x43 ∷ 0x18 ∷ 0x96 ∷
      [];
} ∷ []

mac : Bytes
mac =
    0x05 ∷ 0xac ∷ 0x8a ∷ 0x24 ∷ 0xa5 ∷ 0x5c ∷ 0xa0 ∷ 0x2b ∷ 0xd8 ∷ 0x5c ∷ 0xa4 ∷ 0xd3 ∷ 0xfe ∷ 0xa8 ∷ 0x60 ∷ 0xbd ∷
    0x71 ∷ 0x92 ∷ 0x96 ∷ 0x29 ∷ 0x80 ∷ 0xec ∷ 0xc1 ∷ 0xfb ∷ 0xe0 ∷ 0x1c ∷ 0x0b ∷ 0x1a ∷ 0xd4 ∷ 0xc9 ∷ 0xde ∷ 0xc3 ∷
    []

mac_is : header_mac file_key stanzas ≡ mac
unfolding header_mac file_key stanzas mac signed_text stanza_text body_text body_lines base64_of encode_symbols
    alphabet version_line hkdf hkdf_blocks hkdf_block hmac sha256 digest_bytes hash_after compress rounds schedule
    first_words
mac_is = refl
