-- The faults with which a job may be refused, by its options.
use Rattle.std.specs.Prelude.{◌≡◌, ◌≢◌, ◌⊎◌, ◌<◌, ℕ, Bool, List, Option, None, Some, IsSome, String, ⊤, codes, false, length, true}
use Rattle.std.specs.String.{string_bytes}
use Rattle.age_job.specs.declared.fault.Fault.{Fault}
use Rattle.age_job.specs.declared.fault.Fault.TheVariants as faults
use Rattle.age_job.specs.declared.file_names.Role.{Role}
use Rattle.age_job.specs.declared.file_names.Role.TheVariants as roles
use Rattle.age_job.specs.declared.job.Command.{Command}
use Rattle.age_job.specs.declared.job.Command.TheVariants as command
use Rattle.age_job.specs.declared.job.Job.{Job}

-- this option is present and has this name
abbrev pub IsNamed : {Z : Type 0} (option : Option (String Z)) (name : List ℕ) → Type 0
IsNamed (Some file) name = name ≡ string_bytes file
IsNamed None name = ⊥

-- the name of OUT in messages
abbrev pub IsOutput : {Z : Type 0} (output : Option (String Z)) (name : List ℕ) → Type 0
IsOutput (Some file) name = name ≡ string_bytes file
IsOutput None name = name ≡ codes "standard output"

-- both of two options are present, or neither
abbrev pub IsNoChoice : {A : Type 0} (one other : Option A) → Type 0
IsNoChoice (Some a) None = ⊥
IsNoChoice None (Some b) = ⊥
IsNoChoice _ _ = ⊤

-- the command makes a header
abbrev pub MakesHeader : (job : Job) → Type 0
MakesHeader job = (job.command ≡ command.Encrypt) ⊎ (job.command ≡ command.Rewrap)

-- A file in this role may have this name. A passphrase or key file after the first may have any.
abbrev pub IsRead : (job : Job) (role : Role) (name : List ℕ) → Type 0
IsRead job roles.Input name = IsNamed job.input name
IsRead job roles.Passphrase name = IsNamed job.pass name ⊎ (0 < length job.more_passes.items)
IsRead job roles.Key name = IsNamed job.key name ⊎ (0 < length job.more_keys.items)
IsRead job roles.NewPassphrase name = IsNamed job.new_pass name
IsRead job roles.NewKey name = IsNamed job.new_key name ⊎ (0 < length job.more_new_keys.items)
IsRead job roles.Seed name = MakesHeader job × (name ≡ string_bytes job.seed)
IsRead job roles.FileKey name = (job.command ≡ command.Inspect) × IsNamed job.file_key name

-- whether OUT may replace a file in this role: IN, except by `salvage`, and never a secret
abbrev pub may_be_replaced : (command : Command) → Role → Bool
may_be_replaced command.Salvage _ = false
may_be_replaced _ roles.Input = true
may_be_replaced _ _ = false

-- a fault of a file that is read under this name
abbrev pub IsFileFault : (name : List ℕ) (fault : Fault) → Type 0
IsFileFault name faults.Read = ⊤
IsFileFault name faults.OutOfMemory = ⊤
IsFileFault name (faults.CannotOpen named) = named.0.now ≡ name
IsFileFault name (faults.Unidentified named) = ⊤
IsFileFault name (faults.StandardInputTwice one other) = ⊤
IsFileFault name fault = ⊥

-- a fault of an OUT of this name, because it is a file that is read, or may be one
abbrev pub IsSameFault : (name : List ℕ) (fault : Fault) → Type 0
IsSameFault name (faults.Unidentified named) = ⊤
IsSameFault name (faults.OutputIsRead role named) = named.0.now ≡ name
IsSameFault name fault = ⊥

-- a fault of `IsSameFault`, or a reason why this OUT cannot be replaced
abbrev pub IsReplacedFault : (name : List ℕ) (fault : Fault) → Type 0
IsReplacedFault name (faults.OutputIsSpecial named) = named.0.now ≡ name
IsReplacedFault name (faults.CannotCreate named) = named.0.now ≡ name
IsReplacedFault name (faults.NewFileExists named) = ⊤
IsReplacedFault name (faults.OutputIsBusy named) = named.0.now ≡ name
IsReplacedFault name fault = IsSameFault name fault

-- a fault of the contents of a passphrase file
abbrev pub IsPassphraseFault : (fault : Fault) → Type 0
IsPassphraseFault faults.PassphraseLength = ⊤
IsPassphraseFault faults.NoPassphrase = ⊤
IsPassphraseFault faults.UntypedPassphrase = ⊤
IsPassphraseFault fault = ⊥

-- A fault with which the job may be refused. The names in `Unidentified` and `NewFileExists`, the
-- role in `OutputIsRead`, and the roles in `StandardInputTwice` may be any.
abbrev pub MayRefuse : (job : Job) (fault : Fault) → Type 0
MayRefuse job faults.Read = ⊤
MayRefuse job faults.Write = ⊥
MayRefuse job faults.OutOfMemory = ⊤
MayRefuse job faults.KeyChoice =
    (job.command ≢ command.Inspect) × IsNoChoice job.pass job.key
MayRefuse job faults.NewKeyChoice =
    (job.command ≡ command.Rewrap) × IsNoChoice job.new_pass job.new_key
MayRefuse job (faults.CannotOpen name) = (role : Role) × IsRead job role name.0.now
MayRefuse job (faults.CannotCreate name) = IsNamed job.output name.0.now
MayRefuse job (faults.Unidentified name) = ⊤
MayRefuse job faults.AtomicAlone = (job.atomic ≡ true) × (job.output ≡ None)
MayRefuse job (faults.OutputExists name) =
    (job.no_clobber ≡ true) × IsNamed job.output name.0.now
MayRefuse job (faults.OutputIsSpecial name) = (job.atomic ≡ true) × IsNamed job.output name.0.now
MayRefuse job (faults.NewFileExists name) = (job.atomic ≡ true) × IsSome job.output
MayRefuse job (faults.OutputIsBusy name) = (job.atomic ≡ true) × IsNamed job.output name.0.now
MayRefuse job (faults.OutputIsRead role name) = IsOutput job.output name.0.now
MayRefuse job (faults.StandardInputTwice one other) = ⊤
MayRefuse job faults.KeyLength = IsSome job.key ⊎ IsSome job.new_key
MayRefuse job faults.SeedLength = MakesHeader job
MayRefuse job faults.FileKeyLength = (job.command ≡ command.Inspect) × IsSome job.file_key
MayRefuse job faults.PassphraseLength = IsSome job.pass ⊎ IsSome job.new_pass
MayRefuse job faults.NoPassphrase = MakesHeader job × (IsSome job.pass ⊎ IsSome job.new_pass)
MayRefuse job faults.UntypedPassphrase = MakesHeader job × (IsSome job.pass ⊎ IsSome job.new_pass)
MayRefuse job faults.OutputIsTerminal = (job.output ≡ None) × MakesHeader job

-- a fault after the work: `Write`, or a fault of `MayRefuse`
abbrev pub MayEnd : (job : Job) (fault : Fault) → Type 0
MayEnd job fault = (fault ≡ faults.Write) ⊎ MayRefuse job fault
