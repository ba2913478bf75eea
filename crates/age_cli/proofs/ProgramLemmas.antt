-- The result of a job from that of its task, and what the status after a refusal says.
use Rattle.age_cli.proofs.Common.{◌≡◌, ◌⊎◌, ℕ, List, arith, subst, sym, None, Result, Err, ⊤, Bytes, Known, Moved, Stays, move_by, move_of, Fault, Job, AreWrong, AskForText, Makes, Reads, Task, AnswersRefusal, FailsBeside, IsDevice, IsTaskOf, OfWork, Runs, RunsOn, Works}
use Rattle.std.proofs.KnownBytes.{Keeps-refl}
use Rattle.age_args.specs.declared.fault.WordsFault.{WordsFault}
use Rattle.age_args.proofs.RefusalLemmas.{shown, wrong}
use Rattle.age_job.proofs.RefusalLemmas.{of_secret}
use Rattle.age_cli.specs.declared.failure.Failure.{Failure}

-- the result of a job, from that of its task
pub completes : {F : Type 0} (remaining contents : F → Known) (job : Job) (task : Task) (from source : Known)
    (below unread : Type 0) (sink : Moved) (r : Result ⊤ Failure) → (below → unread) → IsTaskOf job task
    → IsDevice remaining job.input from source
    → OfWork (λ done. (target : Moved)
    × IsDevice (λ (file : F × F). move_by contents file.0 file.1) job.output sink target
    × Works job task source target done) (FailsBeside job below sink) r
    → OfWork (RunsOn remaining contents job from sink) (FailsBeside job unread sink) r
completes remaining contents job task from source below unread sink r keeps is i w = grind arith

-- what was written by a job that failed
pub begins : (meaning : Result ⊤ Fault → Type 0) (job : Job) (unread : Type 0) (sink : Moved) (failure : Failure)
    → OfWork meaning (FailsBeside job unread sink) (Err failure)
    → Stays sink ⊎ ((fault : Fault) × meaning (Err fault))
begins meaning job unread sink failure h = grind arith

-- the result of work that writes to this output
pub performs : {F : Type 0} (contents : F → Known) (job : Job) (task : Task) (from : Known) (unread : Type 0)
    (sink target : Moved) (r : Result ⊤ Failure)
    → IsDevice (λ (file : F × F). move_by contents file.0 file.1) job.output sink target
    → OfWork (Works job task from target) (λ _. ⊥) r
    → OfWork (λ done. (target : Moved)
    × IsDevice (λ (file : F × F). move_by contents file.0 file.1) job.output sink target
    × Works job task from target done) (FailsBeside job unread sink) r
performs contents job task from unread sink target r o works = grind arith

pub stays_known : {old new : Known} → new ≡ old → Stays (move_of old new)
stays_known {old} e = subst (λ (k : Known). Stays (move_of old k)) (sym e) (Keeps-refl old)

-- a job that names neither IN nor OUT runs from standard input to standard output
pub alone : {F : Type 0} (remaining contents : F → Known) (job : Job) {from : Known} {sink : Moved}
    {result : Result ⊤ Fault} → job.input ≡ None
    → job.output ≡ None → RunsOn remaining contents job from sink result → Runs job from sink result
alone remaining contents job none silent runs = grind arith

-- what the status after a refusal says of the words
pub refused : (words : List Bytes) (unwritten : Type 0) (fault : WordsFault) (status : ℕ) → Reads words (Err fault)
    → AnswersRefusal fault status unwritten → status ≡ 2 → unwritten × AreWrong words
refused words unwritten fault status h a two = grind (arith, wrong)

pub answered : (words : List Bytes) (unwritten : Type 0) (fault : WordsFault) (status : ℕ) → Reads words (Err fault)
    → AnswersRefusal fault status unwritten → status ≡ 0 → AskForText words
answered words unwritten fault status h a none = grind (arith, shown)

pub failed : (words : List Bytes) (unwritten : Type 0) (fault : WordsFault) (status : ℕ) → Reads words (Err fault)
    → AnswersRefusal fault status unwritten → status ≡ 1 → AskForText words ⊎ unwritten
failed words unwritten fault status h a one = grind (arith, shown)

pub unused : (words : List Bytes) (unread unwritten used : Type 0) (fault : WordsFault) (status : ℕ)
    → Reads words (Err fault) → AnswersRefusal fault status unwritten → unread
    → (AskForText words × unread) ⊎ ((unread × unwritten) ⊎ used)
unused words unread unwritten used fault status h a kept = grind (arith, shown)

-- the status after a refusal: 2, or 1 with nothing written; or the words ask for a text
pub wrong_status : (words : List Bytes) {unwritten : Type 0} (fault : WordsFault) (status : ℕ) → Reads words (Err fault)
    → AnswersRefusal fault status unwritten → AskForText words ⊎ ((status ≡ 2) ⊎ ((status ≡ 1) × unwritten))
wrong_status words fault status h a = grind (arith, shown)

-- words that make a job are not wrong
pub not_wrong : (words : List Bytes) (job : Job) → Makes words job → AreWrong words → ⊥
not_wrong words job makes bad = let none = rw makes.0 at bad in absurd (cc)

pub ruleset task_of = (of_secret)
