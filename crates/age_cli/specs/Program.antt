-- The results of a job, from its input to its output.
use Rattle.std.specs.Prelude.{◌≡◌, ◌≤◌, ◌⊎◌, ◌^◌, ℕ, ⊤, Bool, false, true, [], List, Option, None, Some, IsSome, Result, Ok, Err}
use Rattle.age_header.specs.Device.{Bytes, Known, Moved, Stays, move_by, move_of}
use Rattle.age_stream.specs.Salvage.{LossesMoved}
use Rattle.age_file.specs.AgeFile.{Bounds}
use Rattle.age_file.specs.declared.fault.Fault.{Fault as FileFault}
use Rattle.age_file.specs.declared.fault.Fault.TheVariants as file
use Rattle.age_job.specs.declared.job.Command.TheVariants as command
use Rattle.age_job.specs.declared.job.Job.{Job}
use Rattle.age_job.specs.Refusal.{MayEnd, MayRefuse}
use Rattle.age_job.specs.declared.failure.Failure.{Failure as JobFailure}
use Rattle.age_job.specs.Secret.{IsFileKeyOf, IsNewSecret, IsSecretOf}
use Rattle.age_job.specs.declared.secret.Secret.{Secret}
use Rattle.age_args.specs.declared.fault.WordsFault.{WordsFault}
use Rattle.age_args.specs.declared.fault.WordsFault.TheVariants.{Memory, Refused}
use Rattle.age_args.specs.JobOf.{IsShown, header_limit}
use Rattle.age_cli.specs.declared.failure.Failure.{Failure}
use Rattle.age_cli.specs.declared.failure.Failure.TheVariants.{AgeFile, Job as OfJob}
use Rattle.age_commands.specs.declared.task.Task.{Task}
use Rattle.age_commands.specs.declared.task.Task.TheVariants.{Encrypt, Decrypt, Rewrap, Inspect, Range, Salvage}
use Rattle.age_commands.specs.Output.{Ends}
use Rattle.age_commands.specs.Task.{Performs, PerformsQuietly}

-- a secret of the kind that the job's options name
abbrev pub IsSecretFor : (job : Job) (secret : Secret) → Type 0
IsSecretFor job secret =
    IsSecretOf job.pass job.more_passes.items job.key job.more_keys.items secret

-- A task of this job: one of its command, with secrets of the kinds that its options name. For
-- `rewrap` the first is the old secret and the second the new one.
abbrev pub IsTaskOf : (job : Job) (task : Task) → Type 0
IsTaskOf job (Encrypt secret seed) =
    (job.command ≡ command.Encrypt) × IsSecretFor job secret × IsNewSecret secret
IsTaskOf job (Decrypt secret) = (job.command ≡ command.Decrypt) × IsSecretFor job secret
IsTaskOf job (Rewrap old new salt) =
    (job.command ≡ command.Rewrap) × IsSecretFor job old
    × IsSecretOf job.new_pass [] job.new_key job.more_new_keys.items new × IsNewSecret new
IsTaskOf job (Inspect key) =
    (job.command ≡ command.Inspect) × IsFileKeyOf job.raw job.file_key key
IsTaskOf job (Range secret) = (job.command ≡ command.Range) × IsSecretFor job secret
IsTaskOf job (Salvage secret) = (job.command ≡ command.Salvage) × IsSecretFor job secret

-- The work of a task on an input with the bytes `from`, and then a flush of the output, which has
-- `taken` before it. The reports are those of some receiver, about which nothing is known. For
-- `salvage`, a read of a named IN may have failed.
abbrev pub Works : (job : Job) (task : Task) (from : Known) (sink : Moved)
    (result : Result ⊤ FileFault) → Type 0
Works job task from sink result =
    (taken : Known) × (work : Result ⊤ FileFault)
    × ((lost : LossesMoved) × Performs job task ⊤ from (move_of sink.before taken) lost work)
    × PerformsQuietly task sink.before taken work × Ends taken sink.after work result

-- a task of the job was performed, with this result
abbrev pub Runs : (job : Job) (from : Known) (sink : Moved) (result : Result ⊤ FileFault) → Type 0
Runs job from sink result = (task : Task) × IsTaskOf job task × Works job task from sink result

-- what is known of a device of a job: of the standard one or, if named, of some file of type `F`
abbrev pub IsDevice : {A F T : Type 0} (told : F → T) (name : Option A) (standard device : T)
    → Type 0
IsDevice told None standard device = device ≡ standard
IsDevice {A} {F} told (Some name) standard device = (file : F) × (device ≡ told file)

-- A task of the job was performed from its IN to its OUT. `remaining` and `contents` are what is
-- known of a file. A named OUT is some two values of its type, before and after the work.
abbrev pub RunsOn : {F : Type 0} (remaining contents : F → Known) (job : Job) (from : Known)
    (sink : Moved) (result : Result ⊤ FileFault) → Type 0
RunsOn {F} remaining contents job from sink result =
    (source : Known) × IsDevice remaining job.input from source
    × ((target : Moved)
    × IsDevice (λ (file : F × F). move_by contents file.0 file.1) job.output sink target
    × Runs job source target result)

-- A job failed before its work, with a refusal that its options allow and its input unread, or at
-- the end of a named OUT. The contents of its standard output, if known, are unchanged.
abbrev pub FailsBeside : (job : Job) (unread : Type 0) (sink : Moved) (failure : JobFailure)
    → Type 0
FailsBeside job unread sink failure =
    Stays sink
    × ((MayRefuse job failure.fault × unread)
    ⊎ (IsSome job.output × MayEnd job failure.fault))

-- `meaning` holds of the result of the work, or `other` of a failure before or after the work
abbrev pub OfWork : (meaning : Result ⊤ FileFault → Type 0) (other : JobFailure → Type 0)
    (result : Result ⊤ Failure) → Type 0
OfWork meaning other (Ok _) = meaning (Ok tt)
OfWork meaning other (Err (AgeFile fault detail)) = meaning (Err fault)
OfWork meaning other (Err (OfJob failure)) = other failure

-- The output is kept after success; after a fault of the work other than a failed write, if
-- `salvage` has saved something; and not after a failure of the job.
abbrev pub keeps_output : (result : Result ⊤ Failure) (has_saved : Bool) → Bool
keeps_output (Ok _) has_saved = true
keeps_output (Err (AgeFile file.Write detail)) has_saved = false
keeps_output (Err (AgeFile fault detail)) has_saved = has_saved
keeps_output (Err (OfJob failure)) has_saved = false

-- the limits for the words: the header's as they set it, or its default, and 2^88 chunks
abbrev pub word_limits : (words : List Bytes) → Bounds
word_limits words = record { max_header = header_limit words; max_chunks = 2 ^ 88 }

-- The answer to a refusal: status 1 for refused memory, 0 or 1 for an error that has a text to
-- show, and 2 for any other error. Only with such a text may the output have changed.
abbrev pub AnswersRefusal : (fault : WordsFault) (status : ℕ) (unwritten : Type 0) → Type 0
AnswersRefusal Memory status unwritten = (status ≡ 1) × unwritten
AnswersRefusal (Refused error) status unwritten =
    ((status ≤ 1) × IsShown error) ⊎ ((status ≡ 2) × unwritten × (IsShown error → ⊥))
