-- Lists of one recipient or identity of a known meaning, and the loops over keys or passphrases.
use Rattle.age_commands.proofs.Common.{arith, ◌≡◌, ◌∙◌, ◌+◌, ◌<◌, ◌++◌, [], ◌∷◌, List, ap, get_or, drop, length, map, sym, take, Result, get_or_default, map_push, take_more, ℕ, Bytes, Flow, Known, OfGiven, Seen, flow, move_of, of_any, gave_none, StanzaParts, decision_from, Fault, Bounds, Answering, Secret, gathering_of, labels_of, recipient_of, wraps_of, Encrypting}
use denote.Param.Object.{Made, read_made}
use denote.Param.Table.{Entry, Table}
use Rattle.age_header.specs.declared.file_key.FileKey.{FileKey}
use Rattle.age_recipient.proofs.AnswerLemmas.{decided_step}
use Rattle.age_recipient.specs.declared.labels.Labels.{Labels}
use Rattle.age_recipient.specs.declared.unwrapped.Unwrapped.{Unwrapped}
use Rattle.age_stream.specs.declared.done.Done.{Done}
use Rattle.age_file.specs.declared.limits.Fresh.{Fresh}
use Rattle.age_file.specs.NewFile.{Gathered, Gathering}
use Rattle.age_job.specs.declared.secret.Secret.TheVariants.{Passphrase, Keys}

-- a trait object that was just made reads as what it holds
pub made_reads : {G : Type 0 → Type 1} {C Z : Type 0} (T : Table G C) (e : Entry G C) (at : T.I) → e ≡ T.entry at
    → (read : (j : Entry G C) → j.0.Denot → Z) {i : T.I} {y : (T.entry i).0.Denot} {x : e.0.Denot}
    → Made (λ j. (T.entry j).0.coded.code) e.0.coded.code at i y x → read (T.entry i) y ≡ read e x
made_reads {Z} T e at same read {i} {y} {x} made = read_made T e at same Z read i y x made

-- the answer of a secret's identity, as the only one in a list
pub answers_meant : {f g : List StanzaParts → Unwrapped} {answers : Answering} → f ≡ g → (λ s. g s ∷ []) ≡ answers
    → (λ s. f s ∷ []) ≡ answers
answers_meant same is = ap {B = Answering} (λ (m : List StanzaParts → Unwrapped) s. m s ∷ []) same ∙ is

-- the stanzas of a secret's recipient, as the only one in a list
pub gathering_meant : {w : FileKey → Result (List StanzaParts) ℕ} {l : Labels} (secret : Secret) (work : ℕ)
    (salt : Bytes) → w ≡ wraps_of (recipient_of secret work salt) → l ≡ labels_of (recipient_of secret work salt)
    → (λ k. Gathered (w k ∷ []) (l ∷ [])) ≡ gathering_of secret work salt
gathering_meant (Passphrase pass others) work salt wraps labels = rw (wraps, labels)
gathering_meant (Keys keys) work salt wraps labels = rw (wraps, labels)

-- what holds of any bytes holds of those read, if nothing was read
pub unread : (a : Seen) {P : Bytes → Type 0} → ((b : Bytes) → P b) → OfGiven (flow a a) P
unread a p = of_any ([], gave_none) p

pub encrypting_meant : {f g : FileKey → Gathering} {limits : Bounds} {fresh : Fresh} {source : Flow} {old new : Known}
    {r : Result Done Fault} → f ≡ g → Encrypting limits fresh (f fresh.file_key) source (move_of old new) r
    → Encrypting limits fresh (g fresh.file_key) source (move_of old new) r
encrypting_meant same h = rw same at h

-- once the next secret has answered, the remaining ones lead to the same decision
pub answers_step : {A : Type 0} (f : A → Unwrapped) (xs : List A) {i : ℕ} {x : A} (so_far : Unwrapped)
    {answer all : Unwrapped} (next : List Unwrapped → Unwrapped) → i < length xs → x ≡ get_or xs i x → answer ≡ f x
    → ((more : List Unwrapped) → decision_from so_far (answer ∷ more) ≡ next more)
    → decision_from so_far (drop i (map f xs)) ≡ all → next (drop (i + 1) (map f xs)) ≡ all
answers_step f xs {i} so_far next low at is step before =
    sym (step (drop (i + 1) (map f xs))) ∙ sym (decided_step f xs so_far low at is) ∙ before

-- the same for keys
pub keys_step : (f : Bytes → Unwrapped) (keys : List Bytes) {i : ℕ} (so_far : Unwrapped) {answer all : Unwrapped}
    (next : List Unwrapped → Unwrapped) → i < length keys → answer ≡ f (get_or keys i [])
    → ((more : List Unwrapped) → decision_from so_far (answer ∷ more) ≡ next more)
    → decision_from so_far (drop i (map f keys)) ≡ all → next (drop (i + 1) (map f keys)) ≡ all
keys_step f keys {i} so_far next low is step before =
    answers_step f keys so_far next low (get_or_default keys i [] (get_or keys i []) low) is step before

-- with the stanza of key i added, the list has those of the first i + 1 keys
pub wrapped_more : {S : Type 0} (f : Bytes → S) (keys : List Bytes) (i : ℕ) {old one new : List S} → i < length keys
    → new ≡ old ++ one → one ≡ f (get_or keys i []) ∷ [] → old ≡ map f (take i keys) → new ≡ map f (take (i + 1) keys)
wrapped_more f keys i low added is before =
    grind (arith, map_push f (take i keys) (get_or keys i []), take_more keys i [] low)
