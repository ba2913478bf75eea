-- The results of a job with its secrets, from the bytes of its input to those of its output.
use Rattle.std.specs.Prelude.{◌≡◌, ◌⊎◌, ◌&&◌, if◌then◌else◌}
use Rattle.age_commands.specs.Words.{ℕ, ⊤, Bool, IfErr, IfSome, Option, Result, Ok, Err, Bytes, Flow, Known, Moved, Fault, BadChunk, BadMac, Bounds, EncryptsGiven, EncryptsText, Gathering, RefusesFirst, Answering, Job}
use Rattle.age_stream.specs.declared.done.Done.{Done}
use Rattle.age_file.specs.declared.limits.Fresh.{Fresh}
use Rattle.age_file.specs.Decrypt.{DecryptsText}
use Rattle.age_file.specs.Device.{IsQuiet}
use Rattle.age_file.specs.Rewrap.{RewrapsText}
use Rattle.age_file.specs.Salvage.{SalvagesText, is_whole_file}
use Rattle.age_file.specs.declared.salvaging.SalvagedFile.{SalvagedFile}
use Rattle.age_stream.specs.Salvage.{LossesMoved}
use Rattle.age_commands.specs.declared.task.Task.{Task}
use Rattle.age_commands.specs.declared.task.Task.TheVariants.{Encrypt, Decrypt, Rewrap, Inspect, Range, Salvage}
use Rattle.age_commands.specs.Inspect.{InspectsText}
use Rattle.age_commands.specs.Range.{RangingAny}
use Rattle.age_commands.specs.Secret.{answers_of, gathering_of, limits_of}
use Rattle.age_commands.specs.Skipping.{OfRead}

-- the result without the counts of bytes and chunks
abbrev pub without_counts : Result Done Fault → Result ⊤ Fault
without_counts (Ok _) = Ok tt
without_counts (Err fault) = Err fault

-- the result and the output of `encrypt`; a fault that refuses the header is the first that applies
pub record Encrypting (limits : Bounds) (fresh : Fresh) (gathered : Gathering) (source : Flow)
    (sink : Moved) (done : Result Done Fault) : Type 0 where
  pub encrypts : EncryptsGiven limits fresh gathered source sink done
  pub refused : IfErr done (RefusesFirst limits fresh.file_key gathered)

-- the result of the command: Ok exactly if the file is whole (`is_whole_file`) and all was read
abbrev pub if_whole : (is_read : Bool) → Result SalvagedFile Fault → Result ⊤ Fault
if_whole is_read (Ok s) =
    if is_whole_file s && is_read then Ok tt else Err (BadChunk s.payload.chunks)
if_whole is_read (Err fault) = Err fault

-- the result, the output and the reports of `salvage`, for an input with the bytes `from`; `failed`
-- holds if a read of the input failed
abbrev pub SalvagesAll : {A : Type 0} (limits : Bounds) (answers : Answering) (input : Option A)
    (failed : Type 0) (from : Known) (sink : Moved) (lost : LossesMoved) (result : Result ⊤ Fault)
    → Type 0
SalvagesAll limits answers input failed from sink lost result =
    (done : Result SalvagedFile Fault) × (is_read : Bool) × (result ≡ if_whole is_read done)
    × OfRead input is_read failed from (λ b. SalvagesText limits answers b sink lost done)

-- P holds of some bytes, and of those to come, if they are known
abbrev pub OfKnown : (from : Known) (P : Bytes → Type 0) → Type 0
OfKnown from P = (given : Bytes) × P given × IfSome from P

-- The result, the output, and for `salvage` the reports, for an input with the bytes `from`. Only
-- for `salvage` does it matter whether a read `failed`. Of the input of a range nothing is known:
-- only the number of bytes written and the kind of fault are bounded.
abbrev pub Performs : (job : Job) (task : Task) (failed : Type 0) (from : Known) (sink : Moved)
    (lost : LossesMoved) (result : Result ⊤ Fault) → Type 0
Performs job (Encrypt secret seed) failed from sink lost result =
    let gathered = gathering_of secret job.work seed.salt seed.fresh.file_key in
    (done : Result Done Fault) × (result ≡ without_counts done)
    × OfKnown from (λ b. EncryptsText (limits_of job) seed.fresh gathered b sink done)
    × IfErr done (RefusesFirst (limits_of job) seed.fresh.file_key gathered)
Performs job (Decrypt secret) failed from sink lost result =
    (done : Result Done Fault) × (result ≡ without_counts done) × OfKnown from
    (λ b. DecryptsText (limits_of job) (answers_of secret job.max_work) b sink done)
Performs job (Rewrap one other salt) failed from sink lost result =
    OfKnown from (λ b. RewrapsText (limits_of job) (answers_of one job.max_work)
    (gathering_of other job.work salt) b sink result)
Performs job (Inspect key) failed from sink lost result =
    OfKnown from (λ b. InspectsText (limits_of job) job.raw key b sink result)
Performs job (Salvage secret) failed from sink lost result = SalvagesAll (limits_of job)
    (answers_of secret job.max_work) job.input failed from sink lost result
Performs job (Range secret) failed from sink lost result =
    (size : Option ℕ) × RangingAny (λ _ _ _. ⊤) (λ found. found) (limits_of job)
    (answers_of secret job.max_work) job.at job.len size sink result

-- a fault leaves the output unchanged, even one of unknown contents, unless it is a chunk's fault,
-- `TooManyChunks`, `Read` or `Write`; but `inspect` writes a header whose MAC is wrong
abbrev pub PerformsQuietly : {W : Type 0} (task : Task) (old new : W) (result : Result ⊤ Fault)
    → Type 0
PerformsQuietly (Inspect key) old new result = (result ≡ Err BadMac) ⊎ IsQuiet old new result
PerformsQuietly _ old new result = IsQuiet old new result
