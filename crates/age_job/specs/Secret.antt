-- The secrets in the files that the options of a job name.
use Rattle.std.specs.Prelude.{◌≡◌, ◌≤◌, ◌<◌, ◌+◌, ◌⊎◌, ℕ, Bool, false, List, Option, None, Some, IsSome, String, length, vec_len, ⊤}
use Rattle.std.specs.String.{string_bytes}
use Rattle.age_job.specs.Refusal.{IsFileFault}
use Rattle.age_job.specs.declared.fault.Fault.{Fault}
use Rattle.age_job.specs.declared.fault.Fault.TheVariants.{KeyLength}
use Rattle.age_job.specs.Passphrase.{IsNewPassphrase}
use Rattle.age_job.specs.declared.secret.Secret.{Secret}
use Rattle.age_job.specs.declared.secret.Secret.TheVariants.{Passphrase, Keys}
use Rattle.age_job.specs.declared.small_files.SecretFiles.{SecretFiles}
use Rattle.age_job.specs.declared.small_files.SecretFiles.TheVariants as files

-- passphrases if only passphrase files are named, one or more keys if only key files are named, at
-- most one for each file; no secret if both kinds are named, or neither
abbrev pub IsSecretOf : {A : Type 0} (pass : Option A) (more_passes : List A) (key : Option A)
    (more_keys : List A) (secret : Secret) → Type 0
IsSecretOf (Some name) more_passes None more_keys (Passphrase bytes others) =
    vec_len others ≤ length more_passes
IsSecretOf None more_passes (Some name) more_keys (Keys keys) =
    (0 < vec_len keys) × (vec_len keys ≤ 1 + length more_keys)
IsSecretOf pass more_passes key more_keys secret = ⊥

-- a secret for a new file
abbrev pub IsNewSecret : Secret → Type 0
IsNewSecret (Passphrase bytes others) = IsNewPassphrase bytes.items
IsNewSecret (Keys keys) = ⊤

-- a file key exactly if its file is named and the header's own text is not asked for
abbrev pub IsFileKeyOf : {A K : Type 0} (raw : Bool) (name : Option A) (key : Option K) → Type 0
IsFileKeyOf false (Some name) key = IsSome key
IsFileKeyOf raw name key = key ≡ None

-- the files of a secret: the options give their kind, the name of the first and their number
abbrev pub IsChoice : {Z : Type 0} (pass : Option (String Z)) (more_passes : List (String Z))
    (key : Option (String Z)) (more_keys : List (String Z)) (files : SecretFiles) → Type 0
IsChoice (Some name) more_passes None more_keys (files.Passphrase first rest) =
    (length rest.now ≡ length more_passes) × (first.name.now ≡ string_bytes name)
IsChoice None more_passes (Some name) more_keys (files.Keys first rest) =
    (length rest.now ≡ length more_keys) × (first.name.now ≡ string_bytes name)
IsChoice pass more_passes key more_keys files = ⊥

-- a fault of a file in a list of one kind, or a refusal of its contents; a file after the first may
-- have any name
abbrev pub IsListFault : (refuses : Fault → Type 0) (first : List ℕ) (rest : ℕ) (fault : Fault)
    → Type 0
IsListFault refuses first rest fault =
    (IsFileFault first fault ⊎ refuses fault)
    ⊎ ((0 < rest) × ((name : List ℕ) × (IsFileFault name fault ⊎ refuses fault)))

-- a fault of one of these files, or a refusal of its contents
abbrev pub IsFilesFault : (refuses : Fault → Type 0) (files : SecretFiles) (fault : Fault) → Type 0
IsFilesFault refuses (files.Passphrase first rest) fault =
    IsListFault refuses first.name.now (length rest.now) fault
IsFilesFault refuses (files.Keys first rest) fault =
    IsListFault (λ f. f ≡ KeyLength) first.name.now (length rest.now) fault

-- a secret that these files may contain
abbrev pub IsReadFrom : (files : SecretFiles) (secret : Secret) → Type 0
IsReadFrom (files.Passphrase first rest) (Passphrase bytes others) =
    vec_len others ≤ length rest.now
IsReadFrom (files.Keys first rest) (Keys keys) =
    (0 < vec_len keys) × (vec_len keys ≤ 1 + length rest.now)
IsReadFrom files secret = ⊥
