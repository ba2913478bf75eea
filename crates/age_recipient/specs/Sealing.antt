-- The file key in a stanza of a passphrase (C2SP age.md, "The scrypt recipient type") or of a key:
-- sealed with ChaCha20-Poly1305 under a wrap key, a nonce of twelve zero bytes, and no additional
-- data.
use Rattle.std.specs.Prelude.{ℕ, ◌+◌, [], replicate}
use Rattle.std.specs.Option.{option_map_or}
use Rattle.age_kdf.specs.Bytes.{Bytes}
use Rattle.age_cipher.specs.Sealing.{sealed_text, opened_text}
use Rattle.age_header.specs.declared.file_key.FileKey.{FileKey}
use Rattle.age_recipient.specs.declared.unwrapped.Unwrapped.{Unwrapped}
use Rattle.age_recipient.specs.declared.unwrapped.Unwrapped.TheVariants as answer
use Rattle.age_cipher.specs.Bytes.{Key, Nonce, tag_size}
use Rattle.age_recipient.specs.Key.{file_key_size}

-- twelve zero bytes, always, because a wrap key seals only one file key
abbrev pub zero_nonce : Nonce
zero_nonce = replicate 12 0

-- the length in bytes of a body that holds a file key
abbrev pub sealed_key_size : ℕ
sealed_key_size = file_key_size + tag_size

-- the body that holds this file key
abbrev pub sealed_key : (wrap_key : Key) (file_key : FileKey) → Bytes
sealed_key wrap_key file_key = sealed_text wrap_key zero_nonce [] file_key.0

-- the answer of a body under a wrap key: the file key that it opens to, or `Failed`
unfoldable pub unsealed_key : (wrap_key : Key) (body : Bytes) → Unwrapped
unsealed_key wrap_key body =
    option_map_or (λ bytes. answer.Key (record { 0 = bytes }))
    (opened_text wrap_key zero_nonce [] body) answer.Failed
