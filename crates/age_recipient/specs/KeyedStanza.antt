-- The keyed stanza, which is this project's own.
use Rattle.std.specs.Prelude.{List, [], ◌∷◌, length, codes, nat_eq, if◌then◌else◌}
use Rattle.std.specs.Option.{option_map_or}
use Rattle.std.specs.declared.option.Option.{Option}
use Rattle.std.specs.declared.option.Option.TheVariants.{None, Some}
use Rattle.age_cipher.specs.Bytes.{Key}
use Rattle.age_kdf.specs.Bytes.{Bytes}
use Rattle.age_kdf.specs.Hkdf.{hkdf}
use Rattle.age_header.specs.Base64.{decoded_bytes, base64_of}
use Rattle.age_header.specs.Header.{StanzaParts}
use Rattle.age_header.specs.declared.file_key.FileKey.{FileKey}
use Rattle.age_recipient.specs.declared.unwrapped.StanzaFault.TheVariants.{ArgCount, Salt, BodyLength}
use Rattle.age_recipient.specs.declared.unwrapped.Unwrapped.{Unwrapped}
use Rattle.age_recipient.specs.declared.unwrapped.Unwrapped.TheVariants.{Malformed, NotMine}
use Rattle.age_recipient.specs.Answer.{after_type}
use Rattle.age_recipient.specs.Salt.{salt_of}
use Rattle.age_recipient.specs.Sealing.{sealed_key, unsealed_key, sealed_key_size}

-- the type of the stanza, which is its first argument, and the info of its wrap key
abbrev pub keyed_type : Bytes
keyed_type = codes "example.org/key"

-- the key that seals the file key in a keyed stanza
unfoldable pub keyed_wrap_key : (key : Key) (salt : Bytes) → Key
keyed_wrap_key key salt = hkdf key salt keyed_type 32

-- The single stanza of a key's recipient, of this project's own type.
unfoldable pub keyed_stanza : (key : Key) (salt : Bytes) (file_key : FileKey) → StanzaParts
keyed_stanza key salt file_key = record {
  args = keyed_type ∷ base64_of salt ∷ [];
  body = sealed_key (keyed_wrap_key key salt) file_key;
}

-- the salt is checked, then the length of the body, and only then is the key tried
abbrev pub salted_answer : (key : Key) (body : Bytes) (salt : Option Bytes) → Unwrapped
salted_answer key body None = Malformed Salt
salted_answer key body (Some salt) =
    if nat_eq (length body) sealed_key_size then unsealed_key (keyed_wrap_key key salt) body
    else Malformed BodyLength

-- the answer of a stanza of this type, whose arguments after the type are these
abbrev pub arguments_answer : (key : Key) (args : List Bytes) (body : Bytes) → Unwrapped
arguments_answer key (salt ∷ []) body = salted_answer key body (salt_of (decoded_bytes salt))
arguments_answer key _ body = Malformed ArgCount

-- The answer of one stanza: `NotMine` if it is of another type, else the first check that it fails,
-- the file key, or `Failed`.
unfoldable pub keyed_answer : (key : Key) (stanza : StanzaParts) → Unwrapped
keyed_answer key stanza =
    option_map_or (λ args. arguments_answer key args stanza.body)
    (after_type keyed_type stanza.args) NotMine
