-- The passphrase stanza (C2SP age.md, "The scrypt recipient type").
use Rattle.std.specs.Prelude.{ℕ, ◌+◌, ◌-◌, ◌*◌, ◌^◌, ◌&&◌, Bool, false, List, [], ◌∷◌, ◌++◌, length, codes, nat_eq, nat_le, if◌then◌else◌}
use Rattle.std.specs.Fmt.{decimal}
use Rattle.std.specs.List.{list_all}
use Rattle.std.specs.Option.{option_map_or}
use Rattle.std.specs.declared.option.Option.{Option}
use Rattle.std.specs.declared.option.Option.TheVariants.{None, Some}
use Rattle.age_cipher.specs.Bytes.{Key}
use Rattle.age_kdf.specs.Bytes.{Bytes}
use Rattle.age_kdf.specs.Scrypt.{scrypt}
use Rattle.age_header.specs.Base64.{decoded_bytes, base64_of}
use Rattle.age_header.specs.Header.{StanzaParts}
use Rattle.age_header.specs.declared.file_key.FileKey.{FileKey}
use Rattle.age_recipient.specs.declared.unwrapped.StanzaFault.TheVariants.{ArgCount, Salt, WorkFactorText, WorkFactorTooHigh, BodyLength}
use Rattle.age_recipient.specs.declared.unwrapped.Unwrapped.{Unwrapped}
use Rattle.age_recipient.specs.declared.unwrapped.Unwrapped.TheVariants.{Malformed, NotMine}
use Rattle.age_recipient.specs.Answer.{after_type}
use Rattle.age_recipient.specs.Salt.{salt_of}
use Rattle.age_recipient.specs.Sealing.{sealed_key, unsealed_key, sealed_key_size}

-- the type of the stanza, its first argument
abbrev pub scrypt_type : Bytes
scrypt_type = codes "scrypt"

-- the wrap key; the work factor is the base-2 logarithm of scrypt's N
unfoldable pub pass_wrap_key : (pass salt : Bytes) (work : ℕ) → Key
pass_wrap_key pass salt work =
    scrypt pass (codes "age-encryption.org/v1/scrypt" ++ salt) (2 ^ work) 8 1 32

-- The single stanza of a passphrase's recipient, of the format's type.
unfoldable pub pass_stanza : (pass : Bytes) (work : ℕ) (salt : Bytes) (file_key : FileKey)
    → StanzaParts
pass_stanza pass work salt file_key = record {
  args = scrypt_type ∷ base64_of salt ∷ decimal work ∷ [];
  body = sealed_key (pass_wrap_key pass salt work) file_key;
}

-- the characters 0 to 9
abbrev pub is_digit : ℕ → Bool
is_digit c = nat_le 48 c && nat_le c 57

-- a digit 1 to 9, then any digits
abbrev pub is_work_factor : Bytes → Bool
is_work_factor [] = false
is_work_factor (c ∷ digits) = nat_le 49 c && nat_le c 57 && list_all is_digit digits

-- the number that n and then these digits spell in decimal
abbrev pub number_from : (n : ℕ) (digits : Bytes) → ℕ
number_from n [] = n
number_from n (c ∷ digits) = number_from (n * 10 + (c - 48)) digits

-- the salt is checked, then the text of the work factor, then its number, then the length of the
-- body, and only then is the key tried
abbrev pub salted_answer : (pass : Bytes) (max : ℕ) (work body : Bytes) (salt : Option Bytes)
    → Unwrapped
salted_answer pass max work body None = Malformed Salt
salted_answer pass max work body (Some salt) =
    if is_work_factor work then if nat_le (number_from 0 work) max
    then if nat_eq (length body) sealed_key_size
    then unsealed_key (pass_wrap_key pass salt (number_from 0 work)) body else Malformed BodyLength
    else Malformed WorkFactorTooHigh else Malformed WorkFactorText

-- the answer of a stanza of this type, whose arguments after the type are these
abbrev pub arguments_answer : (pass : Bytes) (max : ℕ) (args : List Bytes) (body : Bytes)
    → Unwrapped
arguments_answer pass max (salt ∷ work ∷ []) body =
    salted_answer pass max work body (salt_of (decoded_bytes salt))
arguments_answer pass max _ body = Malformed ArgCount

-- The answer of one stanza: `NotMine` if it is of another type, else the first check that it fails,
-- the file key, or `Failed`.
unfoldable pub pass_answer : (pass : Bytes) (max : ℕ) (stanza : StanzaParts) → Unwrapped
pass_answer pass max stanza =
    option_map_or (λ args. arguments_answer pass max args stanza.body)
    (after_type scrypt_type stanza.args) NotMine
