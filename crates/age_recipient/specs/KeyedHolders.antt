-- The recipient and the identity of a key: their parts and their meaning.
use Rattle.std.specs.Prelude.{ℕ, List, [], ◌∷◌, map}
use Rattle.std.specs.declared.result.Result.{Result}
use Rattle.std.specs.declared.result.Result.TheVariants.{Ok}
use Rattle.age_cipher.specs.Bytes.{Key}
use Rattle.age_kdf.specs.Bytes.{Bytes}
use Rattle.age_header.specs.Header.{StanzaParts}
use Rattle.age_header.specs.declared.file_key.FileKey.{FileKey}
use Rattle.age_recipient.specs.declared.unwrapped.Unwrapped.{Unwrapped}
use Rattle.age_recipient.specs.Answer.{decision}
use Rattle.age_recipient.specs.KeyedStanza.{keyed_answer, keyed_stanza}

-- the parts of a recipient; an identity has the key alone
pub record KeySecret : Type 0 where
  pub key : Key
  pub salt : Bytes

-- a recipient's meaning: one stanza, which wraps the file key
abbrev pub key_wraps : (r : KeySecret) (file_key : FileKey) → Result (List StanzaParts) ℕ
key_wraps r file_key = Ok (keyed_stanza r.key r.salt file_key ∷ [])

-- The first `example.org/key` stanza that opens or fails a check decides; the fault is the first
-- check that it fails. If none decides, `Failed` if there is a stanza of this type, else `NotMine`.
abbrev pub key_unwraps : (key : Key) (stanzas : List StanzaParts) → Unwrapped
key_unwraps key stanzas = decision (map (keyed_answer key) stanzas)
