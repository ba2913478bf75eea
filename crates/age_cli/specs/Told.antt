-- What standard error gets when a command fails.
use Rattle.std.specs.Prelude.{◌≡◌, ◌≢◌, ◌+◌, ◌-◌, ◌^◌, ◌++◌, ◌⊎◌, ◌∷◌, [], ℕ, Bool, Err, true, codes, min, IfSome}
use Rattle.age_header.specs.Device.{Bytes, Known, Moved, Took, WritesPart, move_by}
use Rattle.age_job.specs.Texts.{fault_text as job_fault_text}
use Rattle.age_job.specs.declared.job.Command.TheVariants as command
use Rattle.age_job.specs.declared.job.Job.{Job}
use Rattle.age_file.specs.Texts.{fault_text}
use Rattle.age_cli.specs.Program.{FailsBeside, OfWork, RunsOn}
use Rattle.age_cli.specs.declared.failure.Failure.{Failure}
use Rattle.age_cli.specs.declared.failure.Failure.TheVariants.{AgeFile, Job as OfJob}

abbrev pub failure_text : (failure : Failure) → Bytes
failure_text (AgeFile fault detail) = fault_text fault
failure_text (OfJob failure) = job_fault_text failure.fault

abbrev pub error_line : (text : Bytes) → Bytes
error_line text = codes "agep: " ++ (text ++ 10 ∷ [])

-- the line of this text, or of refused memory
abbrev pub IsLineOf : (text line : Bytes) → Type 0
IsLineOf text line = (line ≡ error_line text) ⊎ (line ≡ error_line (codes "out of memory"))

-- a stream for messages before and after a call: what is known of its bytes, and its counts of
-- failed writes
pub record Stream : Type 0 where
  pub bytes : Moved
  pub before : ℕ
  pub after : ℕ

abbrev pub stream_by : {E : Type 0} (taken : E → Known) (failed : E → ℕ) (old new : E) → Stream
stream_by taken failed old new =
    record { bytes = move_by taken old new; before = failed old; after = failed new }

-- The line was printed whole. Or a write failed, and a prefix of the line was printed: the count of
-- failed writes rose by one, saturating at the largest u64.
abbrev pub Prints : (err : Stream) (line : Bytes) → Type 0
Prints err line =
    Took err.bytes line
    ⊎ (WritesPart err.bytes line × (err.after ≡ min (err.before + 1) (2 ^ 64 - 1)))

-- A line was printed, whole if `all`; if the text is known, this text or refused memory's line.
abbrev pub Says : (known : Known) (err : Stream) (all : Bool) → Type 0
Says known err all =
    (line : Bytes) × Prints err line × (all ≡ true → Took err.bytes line)
    × IfSome known (λ said. (line ≡ said) ⊎ (line ≡ error_line (codes "out of memory")))

-- The line of this text, or of refused memory, was printed (`Prints`), or with `--verbose` the line
-- and more. So if no write failed, something was printed.
abbrev pub Tells : (verbose : Bool) (text : Bytes) (err : Stream) → Type 0
Tells verbose text err =
    (line : Bytes) × IsLineOf text line
    × (Prints err line ⊎ ((more : Bytes) × Took err.bytes (line ++ more) × (verbose ≡ true)))

-- The job failed in its work, or before or after it, and standard error got the line of the failure
-- as `Tells` says. Of `salvage`, which also prints lines on chunks, nothing is said.
abbrev pub Told : {F : Type 0} (remaining contents : F → Known) (job : Job) (from : Known)
    (unread : Type 0) (sink : Moved) (err : Stream) → Type 0
Told remaining contents job from unread sink err = job.command ≢ command.Salvage →
    (failure : Failure)
    × OfWork (RunsOn remaining contents job from sink) (FailsBeside job unread sink) (Err failure)
    × Tells job.verbose (failure_text failure) err
