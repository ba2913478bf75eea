-- A job may be refused with each fault of its files.
use Rattle.std.specs.Prelude.{String, IsSome}
use Rattle.std.specs.String.{string_bytes}
use Rattle.std.proofs.Common.{◌≡◌, ◌≢◌, ◌⊎◌, ◌<◌, ℕ, List, [], Option, None, Some, length, inl, inr, arith, refl}
use Rattle.age_job.specs.declared.fault.Fault.{Fault}
use Rattle.age_job.specs.declared.fault.Fault.TheVariants as faults
use Rattle.age_job.specs.declared.file_names.Role.{Role}
use Rattle.age_job.specs.declared.file_names.Role.TheVariants as roles
use Rattle.age_job.specs.declared.job.Command.TheVariants as command
use Rattle.age_job.specs.declared.job.Job.{Job}
use Rattle.age_job.specs.declared.small_files.SecretFiles.{SecretFiles}
use Rattle.age_job.specs.declared.small_files.SecretFiles.TheVariants as files
use Rattle.age_job.specs.Refusal.{IsFileFault, IsNamed, IsNoChoice, IsPassphraseFault, IsRead, MakesHeader, MayRefuse}
use Rattle.age_job.specs.Secret.{IsChoice, IsFilesFault, IsListFault}
use Rattle.age_job.proofs.SecretLemmas.{chosen}

pub of_file : (job : Job) (role : Role) (name : List ℕ) (fault : Fault) → IsRead job role name
    → IsFileFault name fault → MayRefuse job fault
of_file job role name faults.Read is h = tt
of_file job role name faults.OutOfMemory is h = tt
of_file job role name (faults.CannotOpen named) is h = (role, rw h is)
of_file job role name (faults.Unidentified named) is h = tt
of_file job role name (faults.StandardInputTwice one other) is h = tt
of_file job role name fault is h = absurd h

-- a fault of the seed file, or of its length
pub of_seed : (job : Job) (fault : Fault) → MakesHeader job
    → IsFileFault (string_bytes job.seed) fault ⊎ (fault ≡ faults.SeedLength) → MayRefuse job fault
of_seed job fault makes (inl h) = of_file job roles.Seed (string_bytes job.seed) fault (makes, refl) h
of_seed job fault makes (inr same) = rw same makes

-- a fault of files of one kind implies what each of its cases implies
listed : (refuses : Fault → Type 0) (first : List ℕ) (rest : ℕ) (fault : Fault) {R : Type 0}
    → IsListFault refuses first rest fault → (refuses fault → R) → (IsFileFault first fault → R)
    → (0 < rest → (name : List ℕ) → IsFileFault name fault → R) → R
listed refuses first rest fault (inl (inl h)) a b c = b h
listed refuses first rest fault (inl (inr h)) a b c = a h
listed refuses first rest fault (inr (some, (other, inl h))) a b c = c some other h
listed refuses first rest fault (inr (some, (other, inr h))) a b c = a h

-- a fault of the files of a secret implies what each of its cases implies
choose : {Z : Type 0} (pass : Option (String Z)) (passes : List (String Z)) (key : Option (String Z))
    (keys : List (String Z)) (from : SecretFiles)
    (refuses : Fault → Type 0) (fault : Fault) {R : Type 0} → IsChoice pass passes key keys from
    → IsFilesFault refuses from fault → (IsSome pass → refuses fault → R)
    → (IsSome key → fault ≡ faults.KeyLength → R)
    → ((name : List ℕ) → IsNamed pass name ⊎ (0 < length passes) → IsFileFault name fault → R)
    → ((name : List ℕ) → IsNamed key name ⊎ (0 < length keys) → IsFileFault name fault → R) → R
choose (Some name) passes None keys (files.Passphrase first rest) refuses fault is h a b c d =
    listed refuses first.name.now (length rest.now) fault h (a refl) (c first.name.now (inl is.1))
    (λ some other. c other (inr (omega (arith, some, is.0))))
choose (Some name) passes None keys (files.Keys first rest) refuses fault is h a b c d = absurd is
choose None passes (Some name) keys (files.Keys first rest) refuses fault is h a b c d =
    listed (λ f. f ≡ faults.KeyLength) first.name.now (length rest.now) fault h (b refl) (d first.name.now (inl is.1))
    (λ some other. d other (inr (omega (arith, some, is.0))))
choose None passes (Some name) keys (files.Passphrase first rest) refuses fault is h a b c d = absurd is
choose None passes None keys from refuses fault is h a b c d = absurd is
choose (Some name) passes (Some other) keys from refuses fault is h a b c d = absurd is

-- a fault of the contents of a passphrase file
of_passphrase : (job : Job) (fault : Fault) → MakesHeader job → IsSome job.pass ⊎ IsSome job.new_pass
    → IsPassphraseFault fault → MayRefuse job fault
of_passphrase job faults.PassphraseLength makes some h = some
of_passphrase job faults.NoPassphrase makes some h = (makes, some)
of_passphrase job faults.UntypedPassphrase makes some h = (makes, some)
of_passphrase job fault makes some h = absurd h

-- neither or both of passphrase and key are named, for a command other than `inspect`
pub of_choice : (job : Job) (fault : Fault) → job.command ≢ command.Inspect
    → (fault ≡ faults.KeyChoice) × IsNoChoice job.pass job.key → MayRefuse job fault
of_choice job fault has (same, none) = rw same (has, none)

-- a fault of the secret of a command other than `inspect`
pub of_secret : (job : Job) (fault : Fault) → job.command ≢ command.Inspect
    → MayRefuse job fault ⊎ ((fault ≡ faults.KeyChoice) × IsNoChoice job.pass job.key) → MayRefuse job fault
of_secret job fault has (inl may) = may
of_secret job fault has (inr none) = of_choice job fault has none

-- the files of the secret, to open a file
pub of_files : (job : Job) (from : SecretFiles) (fault : Fault)
    → IsChoice job.pass job.more_passes.items job.key job.more_keys.items from
    → IsFilesFault (λ f. f ≡ faults.PassphraseLength) from fault → MayRefuse job fault
of_files job from fault is h =
    choose job.pass job.more_passes.items job.key job.more_keys.items from (λ f. f ≡ faults.PassphraseLength) fault is h
    (λ some same. rw same (inl some)) (λ some same. rw same (inl some))
    (λ name named. of_file job roles.Passphrase name fault named)
    (λ name named. of_file job roles.Key name fault named)

-- a fault of the files of the secret, to make a file, or another that the job allows
pub of_new_files : (job : Job) (from : SecretFiles) (fault : Fault) → MakesHeader job
    → IsChoice job.pass job.more_passes.items job.key job.more_keys.items from
    → IsFilesFault IsPassphraseFault from fault ⊎ (MakesHeader job → MayRefuse job fault) → MayRefuse job fault
of_new_files job from fault makes is (inr may) = may makes
of_new_files job from fault makes is (inl h) =
    choose job.pass job.more_passes.items job.key job.more_keys.items from IsPassphraseFault fault is h
    (λ some. of_passphrase job fault makes (inl some)) (λ some same. rw same (inl some))
    (λ name named. of_file job roles.Passphrase name fault named)
    (λ name named. of_file job roles.Key name fault named)

only_first : {X : Type 0} → X ⊎ (0 < 0) → X
only_first (inl h) = h
only_first (inr none) = absurd (omega (arith, none))

-- the files of the new secret
pub of_other_files : (job : Job) (from : SecretFiles) (fault : Fault) → MakesHeader job
    → IsChoice job.new_pass [] job.new_key job.more_new_keys.items from
    → IsFilesFault IsPassphraseFault from fault ⊎ (MakesHeader job → MayRefuse job fault) → MayRefuse job fault
of_other_files job from fault makes is (inr may) = may makes
of_other_files job from fault makes is (inl h) =
    choose job.new_pass [] job.new_key job.more_new_keys.items from IsPassphraseFault fault is h
    (λ some. of_passphrase job fault makes (inr some)) (λ some same. rw same (inr some))
    (λ name named. of_file job roles.NewPassphrase name fault (only_first named))
    (λ name named. of_file job roles.NewKey name fault named)

-- the file of the file key
pub of_file_key : (job : Job) (name : List ℕ) (fault : Fault) → job.command ≡ command.Inspect
    → IsNamed job.file_key name → IsSome job.file_key
    → IsFileFault name fault ⊎ (fault ≡ faults.FileKeyLength) → MayRefuse job fault
of_file_key job name fault inspects named some (inl h) = of_file job roles.FileKey name fault (inspects, named) h
of_file_key job name fault inspects named some (inr same) = rw same (inspects, some)

pub ruleset read_secret = (chosen, of_files)

pub ruleset read_encrypt_secrets = (chosen, of_choice, of_new_files)

pub ruleset read_rewrap_secrets = (chosen, of_choice, of_files, of_other_files)
