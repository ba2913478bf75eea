-- The meaning of a job's secrets and limits.
use Rattle.std.specs.Global.{Global}
use Rattle.std.specs.Prelude.{◌^◌, ◌∷◌, Vec}
use Rattle.std.specs.List.{list_any}
use Rattle.age_commands.specs.Words.{ℕ, Bool, List, [], map, Result, Ok, Bytes, StanzaParts, Bounds, Gathered, Gathering, Answering, Job}
use Rattle.age_header.specs.declared.file_key.FileKey.{FileKey}
use Rattle.age_recipient.specs.declared.labels.Labels.{Labels}
use Rattle.age_recipient.specs.declared.labels.Labels.TheVariants.{Alone, Names}
use Rattle.age_recipient.specs.declared.unwrapped.Unwrapped.{Unwrapped}
use Rattle.age_recipient.specs.Answer.{decision, is_of}
use Rattle.age_recipient.specs.KeyedHolders.{key_unwraps}
use Rattle.age_recipient.specs.KeyedStanza.{keyed_answer, keyed_stanza, keyed_type}
use Rattle.age_recipient.specs.PassphraseHolders.{PassGuess, pass_wraps}
use Rattle.age_recipient.specs.PassphraseStanza.{pass_answer, pass_stanza, scrypt_type}
use Rattle.age_commands.specs.declared.identity.SecretIdentity.{SecretIdentity}
use Rattle.age_commands.specs.declared.identity.SecretIdentity.TheVariants as identity
use Rattle.age_commands.specs.declared.recipient.SecretRecipient.{SecretRecipient}
use Rattle.age_commands.specs.declared.recipient.SecretRecipient.TheVariants as recipient
use Rattle.age_job.specs.declared.secret.Secret.{Secret}
use Rattle.age_job.specs.declared.secret.Secret.TheVariants.{Passphrase, Keys}

-- the job's limit on a header, and the default limit on chunks
abbrev pub limits_of : Job → Bounds
limits_of job = record { max_header = job.max_header; max_chunks = 2 ^ 88 }

-- passphrases to try in order, each with this maximum work factor
abbrev pub guesses_of : (first : Bytes) (others : List (Vec ℕ Global)) (max_work : ℕ)
    → List PassGuess
guesses_of first others max_work =
    record { pass = first; max = max_work }
    ∷ map (λ other. record { pass = other.items; max = max_work }) others

-- the decision of the identities of these passphrases, called in order
abbrev pub passes_unwrap : (guesses : List PassGuess) (stanzas : List StanzaParts) → Unwrapped
passes_unwrap guesses stanzas =
    decision (map (λ guess. decision (map (pass_answer guess.pass guess.max) stanzas)) guesses)

-- The answer of a secret to a header's stanzas, as one identity: the decision of its passphrases in
-- order, each with this maximum work factor, or of its keys in order.
abbrev pub answers_of : (secret : Secret) (max_work : ℕ) → Answering
answers_of (Passphrase first others) max_work =
    λ stanzas. passes_unwrap (guesses_of first.items others.items max_work) stanzas ∷ []
answers_of (Keys keys) max_work =
    λ stanzas. decision (map (λ key. decision (map (keyed_answer key) stanzas)) keys.items) ∷ []

-- The stanzas of a secret for a file key, as one recipient: a stanza of its first passphrase with
-- salt and work factor, alone in its file; or a stanza of each key in order, with the salt.
abbrev pub gathering_of : (secret : Secret) (work : ℕ) (salt : Bytes) (file_key : FileKey)
    → Gathering
gathering_of (Passphrase pass others) work salt file_key =
    Gathered (Ok (pass_stanza pass.items work salt file_key ∷ []) ∷ []) (Alone ∷ [])
gathering_of (Keys keys) work salt file_key =
    Gathered (Ok (map (λ key. keyed_stanza key salt file_key) keys.items) ∷ []) (Names [] ∷ [])

-- ---- the same for `SecretIdentity` and `SecretRecipient`, the types that hold a secret

-- the decision of the identities of these keys, called in order
abbrev pub keys_unwrap : (keys : List Bytes) (stanzas : List StanzaParts) → Unwrapped
keys_unwrap keys stanzas = decision (map (λ key. key_unwraps key stanzas) keys)

-- the answer of a secret's identity
abbrev pub unwraps_of : (identity : SecretIdentity) (stanzas : List StanzaParts) → Unwrapped
unwraps_of (identity.Passphrases guesses) stanzas = passes_unwrap guesses.items stanzas
unwraps_of (identity.Keys keys) stanzas = keys_unwrap keys.items stanzas

-- whether one of these stanzas has the type that a secret's identity tries
abbrev pub has_own : (identity : SecretIdentity) (stanzas : List StanzaParts) → Bool
has_own (identity.Passphrases guesses) stanzas = list_any (is_of scrypt_type) stanzas
has_own (identity.Keys keys) stanzas = list_any (is_of keyed_type) stanzas

-- the recipient of a secret
abbrev pub recipient_of : (secret : Secret) (work : ℕ) (salt : Bytes) → SecretRecipient
recipient_of (Passphrase pass others) work salt =
    recipient.Passphrase (record { pass = pass.items; salt = salt; work = work })
recipient_of (Keys keys) work salt = recipient.Keys keys salt

-- the stanzas of a secret's recipient for a file key
abbrev pub wraps_of : (recipient : SecretRecipient) (file_key : FileKey)
    → Result (List StanzaParts) ℕ
wraps_of (recipient.Passphrase secret) file_key = pass_wraps secret file_key
wraps_of (recipient.Keys keys salt) file_key =
    Ok (map (λ key. keyed_stanza key salt file_key) keys.items)

-- the labels of a secret's recipient
abbrev pub labels_of : SecretRecipient → Labels
labels_of (recipient.Passphrase _) = Alone
labels_of (recipient.Keys keys salt) = Names []
