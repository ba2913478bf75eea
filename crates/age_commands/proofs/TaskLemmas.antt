-- What a task does, if proofs know only the bytes to come.
use Rattle.age_commands.proofs.Common.{◌≡◌, [], ap, false, Option, Some, None, Err, inl, refl, Appends-nil, Consumes-nil, Keeps-refl, KnownLosses, losses_of, reports_none, append-nil, of_all, Bytes, Known, OfGiven, Seen, flow, move_of, SalvagesText, Fault, OutOfMemory, Bounds, Answering, Job, Encrypt, Decrypt, Rewrap, Inspect, Range, Salvage, answers_of, limits_of, OfKnown, Performs, SalvagesAll}
use Rattle.age_commands.specs.declared.task.Task.{Task}

-- what holds of any bytes holds of those of an input
pub known_any : (from : Known) {P : Bytes → Type 0} → ((b : Bytes) → P b) → OfKnown from P
known_any None p = ([], p [], tt)
known_any (Some bytes) p = ([], p [], p bytes)

-- what holds of the bytes that a source returned holds of those of its input
pub known_told : {a b : Seen} {from : Known} {P : Bytes → Type 0} → a.to_come ≡ from → OfGiven (flow a b) P
    → OfKnown from P
known_told is o = (o.given, rw append-nil at (o.holds [] (λ end. refl)), rw is at (of_all o))

-- `SalvagesAll` holds if memory was refused before a source was made
pub no_source : {A : Type 0} (limits : Bounds) (answers : Answering) (input : Option A) (failed : Type 0)
    (from old : Known) (lost : KnownLosses) {fault : Fault} → fault ≡ OutOfMemory
    → SalvagesAll limits answers input failed from (move_of old old) (losses_of lost lost) (Err fault)
no_source limits answers input failed from old lost {fault} is =
    (Err OutOfMemory, false, ap Err is, ([], text [], inl (from, Consumes-nil from), λ all. (known_any from text).2))
  where
    text : (b : Bytes) → SalvagesText limits answers b (move_of old old) (losses_of lost lost) (Err OutOfMemory)
    text b = (Appends-nil old, reports_none lost)

-- `Performs` holds if memory was refused before a task began
pub no_memory : (job : Job) (task : Task) (failed : Type 0) (from old : Known) (lost : KnownLosses)
    → Performs job task failed from (move_of old old) (losses_of lost lost) (Err OutOfMemory)
no_memory job (Encrypt secret seed) failed from old lost = (Err OutOfMemory, refl, known_any from (λ b. tt), tt)
no_memory job (Decrypt secret) failed from old lost = (Err OutOfMemory, refl, known_any from (λ b. tt))
no_memory job (Rewrap one other salt) failed from old lost = known_any from (λ b. tt)
no_memory job (Inspect key) failed from old lost = known_any from (λ b. Keeps-refl old)
no_memory job (Salvage secret) failed from old lost =
    no_source (limits_of job) (answers_of secret job.max_work) job.input failed from old lost refl
no_memory job (Range secret) failed from old lost = (None, inl (tt, Keeps-refl old))
