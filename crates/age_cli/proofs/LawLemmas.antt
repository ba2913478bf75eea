-- What a finished job has written, if input and output are known.
use Rattle.age_cli.proofs.Common.{◌≡◌, ◌≤◌, ◌⊎◌, ◌∙◌, ◌++◌, ℕ, arith, cond, inl, inr, length, sym, true, List, Some, Result, Ok, Err, ⊤, ◌↔◌, ◌&&◌, Bool, Option, Bytes, Known, move_of, LossesMoved, Fault, Job, Ends, IsPiped, Makes, Moved, Runs, RunsOn, word_limits, OfKnown, Performs, SalvagesAll, without_counts}
use Rattle.std.proofs.lemmas.Bool.{and_parts}
use Rattle.std.specs.Io.KnownBytes.{Appends, Keeps}
use Rattle.age_header.specs.Header.{HeaderParts, StanzaParts}
use Rattle.age_header.specs.Verdict.{HeaderVerdict}
use Rattle.age_header.specs.declared.file_key.FileKey.{FileKey}
use Rattle.age_recipient.specs.Choice.{choice}
use Rattle.age_stream.specs.declared.done.Done.{Done}
use Rattle.age_stream.specs.Reading.{Reading, whole}
use Rattle.age_file.specs.declared.fault.Fault.TheVariants.{BadChunk}
use Rattle.age_file.specs.declared.limits.Fresh.{Fresh}
use Rattle.age_file.specs.AgeFile.{AgeFile, Bounds}
use Rattle.age_file.specs.Decrypt.{DecryptsText}
use Rattle.age_file.specs.NewFile.{EncryptsText, Gathering}
use Rattle.age_file.specs.Rewrap.{RewrapsText, Rewrapped}
use Rattle.age_file.specs.Salvage.{SavesFile, is_whole_file}
use Rattle.age_file.specs.declared.salvaging.SalvagedFile.{SalvagedFile}
use Rattle.age_file.specs.Verdict.{Answering, IsVerdict, finding}
use Rattle.age_file.proofs.SalvageLaws.{saved_exactly, saved_whole}
use Rattle.age_job.specs.declared.job.Command.{Command}
use Rattle.age_job.specs.declared.job.Command.TheVariants as command
use Rattle.age_job.specs.declared.secret.Secret.{Secret}
use Rattle.age_commands.specs.declared.task.Task.TheVariants as task
use Rattle.age_commands.specs.Inspect.{InspectsText, IsShown, check_of}
use Rattle.age_args.proofs.PipedLemmas.{piped}
use Rattle.age_cli.proofs.ProgramLemmas.{alone}
use Rattle.age_commands.specs.Secret.{answers_of, gathering_of, limits_of}

-- the output has what it had before, and after it what was appended
grown : (xs more : Bytes) (taken new : Known) → Appends (Some xs) taken more → Keeps taken new → new ≡ Some (xs ++ more)
grown xs more taken new a k = grind arith

-- if the result is Ok, the work succeeded and the output still has what it had
ended : (taken new : Known) {work : Result ⊤ Fault} → Ends taken new work (Ok tt) → (work ≡ Ok tt) × Keeps taken new
ended taken new e = grind arith

abbrev pub OkIsAgeFile : Type 0
OkIsAgeFile = (limits : Bounds) (answers : Answering) (b plain : Bytes) → IsVerdict limits answers b (whole plain)
    ↔ ((stanzas : List StanzaParts) × (k : FileKey) × AgeFile limits k stanzas plain b
    × (choice (answers stanzas) ≡ Ok k))

abbrev pub SomeVerdict : Type 0
SomeVerdict = (limits : Bounds) (answers : Answering) (b : Bytes) → (v : Reading Fault) × IsVerdict limits answers b v

abbrev pub Gained : (limits : Bounds) (b xs : Bytes) (new : Known) → Type 0
Gained limits b xs new = (stanzas : List StanzaParts) × (k : FileKey) × (plain : Bytes)
    × AgeFile limits k stanzas plain b × (new ≡ Some (xs ++ plain))

decrypted : OkIsAgeFile → (limits : Bounds) (answers : Answering) (b xs : Bytes) (taken new : Known)
    (done : Result Done Fault) (work : Result ⊤ Fault)
    → work ≡ without_counts done → OfKnown (Some b) (λ x. DecryptsText limits answers x (move_of (Some xs) taken) done)
    → Ends taken new work (Ok tt) → Gained limits b xs new
decrypted law limits answers b xs taken new (Err fault) work is d ends = grind arith
decrypted law limits answers b xs taken new (Ok counts) work is
    (given, one, (verdict, judged, (none, bytes, n), appends)) ends =
    let found = (law limits answers b verdict.plaintext).0 (rw none at judged) in
    (found.0, found.1, verdict.plaintext, found.2, grown xs verdict.plaintext taken new appends (ended taken new ends).1)

if_ok : (b : Bool) (fault : Fault) → ◌≡◌ {A = Result ⊤ Fault} (cond b (Ok tt) (Err fault)) (Ok tt) → b ≡ true
if_ok b fault e = grind arith

saved_all : OkIsAgeFile → SomeVerdict → (limits : Bounds) (answers : Answering) (b xs : Bytes) (taken new : Known)
    (lost : LossesMoved) (s : SalvagedFile) → is_whole_file s ≡ true
    → SavesFile limits answers b (move_of (Some xs) taken) lost (Ok s) → Keeps taken new → Gained limits b xs new
saved_all law some limits answers b xs taken new lost s all saves keeps =
    let (verdict, judged) = some limits answers b in
    let none = (saved_exactly limits answers b verdict (move_of (Some xs) taken) lost s judged saves).0 all in
    let reads = rw none at judged in
    let found = (law limits answers b verdict.plaintext).0 reads in
    let took = (saved_whole limits answers b verdict.plaintext (move_of (Some xs) taken) lost s reads saves).0 in
    (found.0, found.1, verdict.plaintext, found.2, grown xs verdict.plaintext taken new took keeps)

salvaged : OkIsAgeFile → SomeVerdict → (limits : Bounds) (answers : Answering) (b xs : Bytes) (taken new : Known)
    {A : Type 0} (input : Option A) (lost : LossesMoved) (work : Result ⊤ Fault)
    → SalvagesAll limits answers input ⊤ (Some b) (move_of (Some xs) taken) lost work
    → Ends taken new work (Ok tt) → Gained limits b xs new
salvaged law some limits answers b xs taken new input lost work (Err fault, is_read, is, d) ends =
    absurd (cc (is, (ended taken new ends).0))
salvaged law some limits answers b xs taken new input lost work (Ok s, is_read, is, d) ends =
    let all = and_parts (is_whole_file s) is_read
    (if_ok (is_whole_file s && is_read) (BadChunk s.payload.chunks) (sym is ∙ (ended taken new ends).0)) in
    saved_all law some limits answers b xs taken new lost s all.0 (d.3 (inr all.1)) (ended taken new ends).1

pub done_decrypt : OkIsAgeFile → SomeVerdict → (job : Job) (b xs : Bytes) (new : Known)
    → (job.command ≡ command.Decrypt) ⊎ (job.command ≡ command.Salvage)
    → Runs job (Some b) (move_of (Some xs) new) (Ok tt) → Gained (limits_of job) b xs new
done_decrypt law some job b xs new one (task.Decrypt secret, is, (taken, work, (lost, (done, same, d)), quiet, ends)) =
    decrypted law (limits_of job) (answers_of secret job.max_work) b xs taken new done work same d ends
done_decrypt law some job b xs new one (task.Salvage secret, is, (taken, work, (lost, d), quiet, ends)) =
    salvaged law some (limits_of job) (answers_of secret job.max_work) b xs taken new job.input lost work d ends
done_decrypt law some job b xs new (inl one) (task, is, w) = absurd (cc (one, is.0))
done_decrypt law some job b xs new (inr one) (task, is, w) = absurd (cc (one, is.0))

-- an age file of the input was appended to the output
abbrev pub Made : (limits : Bounds) (plain xs : Bytes) (new : Known) → Type 0
Made limits plain xs new = (stanzas : List StanzaParts) × (k : FileKey) × (b : Bytes) × AgeFile limits k stanzas plain b
    × (new ≡ Some (xs ++ b))

encrypted : (limits : Bounds) (fresh : Fresh) (gathered : Gathering) (plain xs : Bytes) (taken new : Known)
    (done : Result Done Fault) (work : Result ⊤ Fault)
    → work ≡ without_counts done
    → OfKnown (Some plain) (λ x. EncryptsText limits fresh gathered x (move_of (Some xs) taken) done)
    → Ends taken new work (Ok tt) → Made limits plain xs new
encrypted limits fresh gathered plain xs taken new done work is e ends = grind (arith, grown)

pub done_encrypt : (job : Job) (plain xs : Bytes) (new : Known) → job.command ≡ command.Encrypt
    → Runs job (Some plain) (move_of (Some xs) new) (Ok tt) → Made (limits_of job) plain xs new
done_encrypt job plain xs new one (task.Encrypt secret seed, is, (taken, work, (lost, performs), quiet, ends)) =
    let (done, same, e, refused) = performs in
    let gathered = gathering_of secret job.work seed.salt seed.fresh.file_key in
    encrypted (limits_of job) seed.fresh gathered plain xs taken new done work same e ends
done_encrypt job plain xs new one (task, is, w) = absurd (cc (one, is.0))

-- the input with another header was appended to the output
abbrev pub Rewrote : (limits : Bounds) (b xs : Bytes) (new : Known) → Type 0
Rewrote limits b xs new = (answers : Answering) × (c : Bytes) × Rewrapped limits answers b c × (new ≡ Some (xs ++ c))

rewrote : (limits : Bounds) (answers : Answering) (gathered : FileKey → Gathering) (b xs : Bytes) (taken new : Known)
    (work : Result ⊤ Fault)
    → OfKnown (Some b) (λ x. RewrapsText limits answers gathered x (move_of (Some xs) taken) work)
    → Ends taken new work (Ok tt) → Rewrote limits b xs new
rewrote limits answers gathered b xs taken new (Err fault) r ends = absurd (cc (ended taken new ends).0)
rewrote limits answers gathered b xs taken new (Ok u) (given, one, (c, is, took)) ends =
    (answers, c, is.0, grown xs c taken new took (ended taken new ends).1)

pub done_rewrap : (job : Job) (b xs : Bytes) (new : Known) → job.command ≡ command.Rewrap
    → Runs job (Some b) (move_of (Some xs) new) (Ok tt) → Rewrote (limits_of job) b xs new
done_rewrap job b xs new one (task.Rewrap old other salt, is, (taken, work, (lost, r), quiet, ends)) =
    rewrote (limits_of job) (answers_of old job.max_work) (gathering_of other job.work salt) b xs taken new work r ends
done_rewrap job b xs new one (task, is, w) = absurd (cc (one, is.0))

-- what is shown of the header at the start of the input was appended to the output
abbrev pub Showed : (limits : Bounds) (raw : Bool) (b xs : Bytes) (new : Known) → Type 0
Showed limits raw b xs new =
    (header : HeaderParts) × (text : Bytes) × HeaderVerdict b limits.max_header (Ok (finding text header))
    × ((key : Option Bytes) × (shown : Bytes) × IsShown raw header (check_of key header) shown
    × (new ≡ Some (xs ++ shown)))

showed : (limits : Bounds) (raw : Bool) (key : Option Bytes) (b xs : Bytes) (taken new : Known) (work : Result ⊤ Fault)
    → OfKnown (Some b) (λ x. InspectsText limits raw key x (move_of (Some xs) taken) work)
    → Ends taken new work (Ok tt) → Showed limits raw b xs new
showed limits raw key b xs taken new (Err fault) i ends = absurd (cc (ended taken new ends).0)
showed limits raw key b xs taken new (Ok u) (given, one, t) ends =
    let keeps = (ended taken new ends).1 in
    (t.header, t.text, t.verdict, (key, t.shown, t.is, grown xs t.shown taken new t.holds.1 keeps))

pub done_inspect : (job : Job) (b xs : Bytes) (new : Known) → job.command ≡ command.Inspect
    → Runs job (Some b) (move_of (Some xs) new) (Ok tt) → Showed (limits_of job) job.raw b xs new
done_inspect job b xs new one (task.Inspect key, is, (taken, work, (lost, i), quiet, ends)) =
    showed (limits_of job) job.raw key b xs taken new work i ends
done_inspect job b xs new one (task, is, w) = absurd (cc (one, is.0))

-- at most this many bytes were appended to the output
abbrev pub GainedAtMost : (len : ℕ) (xs : Bytes) (new : Known) → Type 0
GainedAtMost len xs new = (part : Bytes) × (length part ≤ len) × (new ≡ Some (xs ++ part))

ranged : (job : Job) (secret : Secret) (from : Known) (xs : Bytes) (taken new : Known) (lost : LossesMoved)
    (work : Result ⊤ Fault) → Performs job (task.Range secret) ⊤ from (move_of (Some xs) taken) lost work
    → Ends taken new work (Ok tt) → GainedAtMost job.len xs new
ranged job secret from xs taken new lost work r ends = grind (arith, ended, grown)

pub done_range : (job : Job) (from : Known) (xs : Bytes) (new : Known) → job.command ≡ command.Range
    → Runs job from (move_of (Some xs) new) (Ok tt) → GainedAtMost job.len xs new
done_range job from xs new one (task.Range secret, is, (taken, work, (lost, r), quiet, ends)) =
    ranged job secret from xs taken new lost work r ends
done_range job from xs new one (task, is, w) = absurd (cc (one, is.0))

-- a job of words that name neither IN nor OUT has their command and limits, and is as `Runs` says
pub words_job : {F : Type 0} (remaining contents : F → Known) (words : List Bytes) (c : Command) (job : Job)
    (from : Known) (sink : Moved) (result : Result ⊤ Fault) → IsPiped c words → Makes words job
    → RunsOn remaining contents job from sink result
    → (job.command ≡ c) × (limits_of job ≡ word_limits words) × Runs job from sink result
words_job remaining contents words c job from sink result pipe makes runs =
    let p = piped c words job pipe makes in
    (p.is, grind (arith, p.max_header), alone remaining contents job p.input p.output runs)

pub ruleset jobs_done = (done_decrypt, done_encrypt, done_rewrap, done_inspect, done_range)
