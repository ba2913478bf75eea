-- The recipient and the identity of a passphrase: their parts and their meaning.
use Rattle.std.specs.Prelude.{ℕ, ◌≤◌, List, [], ◌∷◌, map}
use Rattle.std.specs.declared.result.Result.{Result}
use Rattle.std.specs.declared.result.Result.TheVariants.{Ok}
use Rattle.age_kdf.specs.Bytes.{Bytes}
use Rattle.age_header.specs.Header.{StanzaParts}
use Rattle.age_header.specs.declared.file_key.FileKey.{FileKey}
use Rattle.age_recipient.specs.declared.unwrapped.Unwrapped.{Unwrapped}
use Rattle.age_recipient.specs.declared.passphrase.recipient.PassError.{PassError}
use Rattle.age_recipient.specs.declared.passphrase.recipient.PassError.TheVariants.{WorkFactor, Memory}
use Rattle.age_recipient.specs.Answer.{decision}
use Rattle.age_recipient.specs.PassphraseStanza.{pass_answer, pass_stanza}

-- the parts of a recipient
pub record PassSecret : Type 0 where
  pub pass : Bytes
  pub salt : Bytes
  pub work : ℕ

-- the parts of an identity
pub record PassGuess : Type 0 where
  pub pass : Bytes
  pub max : ℕ

-- the greatest work factor, for which scrypt needs 1 TiB of memory
abbrev pub most_work : ℕ
most_work = 30

-- a work factor is from 1 to the greatest
abbrev pub WorkFits : ℕ → Type 0
WorkFits work = (1 ≤ work) × (work ≤ most_work)

-- a pair's work factor is from 1 to its maximum, which is at most the greatest work factor
pub record PairFits (work max : ℕ) : Type 0 where
  pub low : 1 ≤ work
  pub within : work ≤ max
  pub top : max ≤ most_work

-- an error is `WorkFactor` exactly if the work factors do not fit
abbrev pub IsPassError : (fits : Type 0) (error : PassError) → Type 0
IsPassError fits WorkFactor = fits → ⊥
IsPassError fits Memory = fits

-- a recipient's meaning: one stanza, which wraps the file key
abbrev pub pass_wraps : (r : PassSecret) (file_key : FileKey) → Result (List StanzaParts) ℕ
pass_wraps r file_key = Ok (pass_stanza r.pass r.work r.salt file_key ∷ [])

-- The first `scrypt` stanza that opens or fails a check decides; the fault is the first check that
-- it fails. If none decides, `Failed` if there is a stanza of this type, else `NotMine`.
abbrev pub pass_unwraps : (i : PassGuess) (stanzas : List StanzaParts) → Unwrapped
pass_unwraps i stanzas = decision (map (pass_answer i.pass i.max) stanzas)
