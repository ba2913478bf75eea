-- Whole age files (C2SP age.md).
use Rattle.std.specs.Prelude.{◌≡◌, ℕ, ◌≤◌, ◌&&◌, Bool, false, List, [], ◌∷◌, ◌++◌, length, nat_lt}
use Rattle.std.specs.List.{list_any}
use Rattle.std.specs.Str.{bytes_eq}
use Rattle.age_header.specs.Device.{Bytes}
use Rattle.age_header.specs.Header.{StanzaParts, Head}
use Rattle.age_header.specs.Mac.{header_mac}
use Rattle.age_header.specs.declared.file_key.FileKey.{FileKey}
use Rattle.age_recipient.specs.PassphraseStanza.{scrypt_type}
use Rattle.age_stream.specs.Payload.{chunks, payload}
use Rattle.age_stream.specs.Sizes.{nonce_size, most_chunks}

-- the maximum length of a header in bytes, and of a payload in chunks
pub record Bounds : Type 0 where
  pub max_header : ℕ
  pub max_chunks : ℕ

-- the bounds of a header's limit, 1 KiB and 16 MiB, and the default limit
abbrev pub least_max_header : ℕ
least_max_header = 1024

abbrev pub most_max_header : ℕ
most_max_header = 16777216

abbrev pub default_max_header : ℕ
default_max_header = 65536

-- the limits that `Limits` may hold
pub record IsBounds (limits : Bounds) : Type 0 where
  pub header_low : least_max_header ≤ limits.max_header
  pub header_high : limits.max_header ≤ most_max_header
  pub chunks_low : 1 ≤ limits.max_chunks
  pub chunks_high : limits.max_chunks ≤ most_chunks

-- whether the first argument, the type, is `scrypt`
abbrev pub is_scrypt : List Bytes → Bool
is_scrypt [] = false
is_scrypt (kind ∷ _) = bytes_eq kind scrypt_type

-- there is a `scrypt` stanza, and it is not alone (C2SP age.md, "The scrypt recipient type")
abbrev pub is_mixed : List StanzaParts → Bool
is_mixed stanzas = nat_lt 1 (length stanzas) && list_any (λ s. is_scrypt s.args) stanzas

-- b is a file of these stanzas and this plaintext under this file key, within the limits: a header
-- with the right MAC and no `scrypt` stanza beside another, then a payload
pub record AgeFile (limits : Bounds) (k : FileKey) (stanzas : List StanzaParts) (plain b : Bytes)
    : Type 0 where
  pub header : Bytes
  pub nonce : Bytes
  pub head : Head stanzas (header_mac k.0 stanzas) header
  pub nonce_len : length nonce ≡ nonce_size
  pub spelled : b ≡ header ++ payload k nonce plain
  pub header_fits : length header ≤ limits.max_header
  pub chunks_fit : length (chunks plain) ≤ limits.max_chunks
  pub unmixed : is_mixed stanzas ≡ false
