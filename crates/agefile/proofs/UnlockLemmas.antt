-- Finding a file key and the start of the chunks; and the verdict under the file key found.
use Rattle.agefile.proofs.Common.{◌≡◌, ◌≢◌, ◌⊎◌, ℕ, ◌+◌, ◌-◌, [], ◌++◌, length, take, drop, sym, ◌∙◌, ap, refl, arith, inl, inr, length-append, Some, Result, Ok, Err, Bool, true, false, cond, ◌<◌, ◌≤◌, length-drop, Bytes, Flow, HeaderFault, HeaderParts, Found, HeaderVerdict, found_again, FileKey, Reading, stop, Fault, OutOfMemory, BadMac, NonceTruncated, Inspects, Answering, IsVerdict, header_fault, reading_after, parts_of, reading_under, header_key, finding, err_err, Report, code_of, HeaderOf, limits, IsFront, Refuses, report_of, FindsKey, FindsStart, GivesKey, IsKey, IsStart, Opens, StartsAt, Unlocks, by_file_key, start_under, with_len, le-ltb, lt-ltb, payload_key, begins_found, Payload, Start}
use Rattle.age_file.proofs.FileLemmas.{tested_key, one_verdict}
use Rattle.agefile.specs.declared.unlocking.Unlocked.{Unlocked}
use Rattle.agefile.proofs.HeaderLemmas.{front_verdict}
use Rattle.agefile.proofs.RunLemmas.{some_code}

pub ok_ok : {A : Type 0} {x y : A} → ◌≡◌ {A = Result A Fault} (Ok x) (Ok y) → x ≡ y
ok_ok {x} {y} e = cc

-- a header that was read, and what follows it
pub record Fronts (b rest : Bytes) (h : HeaderParts) : Type 0 where
  pub text : Bytes
  pub verdict : HeaderVerdict b limits.max_header (Ok (finding text h))
  pub begins : b ≡ text ++ rest

pub fronts : {source : Flow} {b rest : Bytes} {h : HeaderParts} → source.before.to_come ≡ Some b
    → source.after.to_come ≡ Some rest → Inspects limits source (Ok h) → Fronts b rest h
fronts {rest = rest} {h} come left (text, took, found) =
    let begins = rw (come, left) at took.consumes in
    let verdict = found_again text limits.max_header (finding text h) found rest in
    record { text = text; verdict = rw begins verdict; begins = begins }

-- ---- the file key

-- `with_len` keeps the file key or the fault
key_with : (n : ℕ) {found : Unlocked} {key : Result FileKey Fault} → Ok found ≡ with_len n key
    → (key ≡ Ok found.key) × (found.header_len ≡ n)
key_with n {key = Err fault} e = absurd (cc)
key_with n {key = Ok k} e = rw (ok_ok e) (refl, refl)

fault_with : (n : ℕ) {fault : Fault} {key : Result FileKey Fault} → Err fault ≡ with_len n key → key ≡ Err fault
fault_with n {key = Ok k} e = absurd (cc)
fault_with n {fault} {key = Err other} e = ap Err (sym (err_err {A = Unlocked} fault other e))

-- b's header, whose length was found, and for which these answers choose the file key found
pub record IsFound (answers : Answering) (b : Bytes) (found : Unlocked) : Type 0 where
  pub head : Found
  pub verdict : HeaderVerdict b limits.max_header (Ok head)
  pub key : header_key answers (parts_of head) ≡ Ok found.key
  pub len : found.header_len ≡ length head.text

pub found_key : (answers : Answering) (b : Bytes) (found : Unlocked) → FindsKey answers b (Ok found)
    → IsFound answers b found
found_key a b c d = grind (arith, key_with)

-- a fault of reading the header is a result of finding the file key
pub key_none : (answers : Answering) (b : Bytes) (fault : Fault) → HeaderOf b (Err fault)
    → FindsKey answers b (Err fault)
key_none answers b fault (inl memory) = inl (ap Err memory)
key_none answers b fault (inr (reason, verdict, is)) = inr (Err reason, verdict, ap Err is)

pub key_locked : (answers : Answering) {b rest : Bytes} {h : HeaderParts} {fault : Fault} → Fronts b rest h
    → (◌≡◌ {A = Result FileKey Fault} (Err fault) (Err OutOfMemory)) ⊎ (Err fault ≡ header_key answers h)
    → FindsKey answers b (Err fault)
key_locked answers {fault} f (inl memory) = inl (ap Err (err_err {A = FileKey} fault OutOfMemory memory))
key_locked answers {h} f (inr is) = inr (Ok (finding f.text h), f.verdict, ap (with_len (length f.text)) is)

pub key_found : (answers : Answering) {b : Bytes} (rest : Bytes) {h : HeaderParts} (k : FileKey) → Fronts b rest h
    → (◌≡◌ {A = Result FileKey Fault} (Ok k) (Err OutOfMemory)) ⊎ (Ok k ≡ header_key answers h)
    → FindsKey answers b (Ok (record { header_len = length b - length rest; key = k }))
key_found answers rest k f (inl memory) = absurd (cc)
key_found answers {b} rest {h} k f (inr is) =
    let len = ap length f.begins ∙ length-append f.text rest in
    inr (Ok (finding f.text h), f.verdict, grind (arith, len))

-- the first 65,552 bytes of a file have its file key
pub whole_unlocks : (answers : Answering) (b : Bytes) {front old new : Bytes} {report : Report} {code : ℕ}
    (key : Result Unlocked Fault) → IsFront front b
    → FindsKey answers front key → GivesKey key old new report code → Unlocks answers b old new report code
whole_unlocks a b c d e f = grind (arith, front_verdict)

-- ---- the verdict, by the file key

-- the verdict is the reading after any header verdict on b
pub judged_is : (answers : Answering) (b : Bytes) (v : Reading Fault) (header : Result Found HeaderFault)
    → HeaderVerdict b limits.max_header header → IsVerdict limits answers b v → v
    ≡ reading_after limits answers b header
judged_is answers b v header verdict h = one_verdict limits answers b v (reading_after limits answers b header) h
    (record { header = header; header_verdict = verdict; is = refl })

-- a fault in finding the file key is the fault of the verdict
key_stops : (answers : Answering) (b : Bytes) (fault : Fault) (v : Reading Fault) → IsKey answers b (Err fault)
    → IsVerdict limits answers b v → v ≡ stop fault
key_stops answers b fault v (Err e, verdict, is) h =
    rw (err_err {A = Unlocked} fault (header_fault e) is) (judged_is answers b v (Err e) verdict h)
key_stops answers b fault v (Ok head, verdict, is) h =
    rw (fault_with (length head.text) is) at (judged_is answers b v (Ok head) verdict h)

-- if the verdict is this fault alone, a call that refuses with it agrees with the verdict
pub refusal : {S : Type 0} {old new : S} {report : Report} {code : ℕ} (fault : Fault) (v : Reading Fault)
    → Refuses fault old new report code → v ≡ stop fault
    → (v.plaintext ≡ []) × (code_of v.fault ≡ code) × (report ≡ report_of 0 v.fault)
refusal fault v refuses is = rw is (refl, sym refuses.returned, refuses.reported)

pub unlocking_refused : (answers : Answering) (b old new : Bytes) (report : Report) (code : ℕ) (v : Reading Fault)
    → Unlocks answers b old new report code → IsVerdict limits answers b v → code ≢ 0 → code ≢ 17
    → (v.plaintext ≡ []) × (code_of v.fault ≡ code) × (report ≡ report_of 0 v.fault)
unlocking_refused answers b old new report code v (Ok found, is, gives) h some other = absurd (some gives.0)
unlocking_refused answers b old new report code v (Err fault, inl memory, gives) h some other = grind arith
unlocking_refused answers b old new report code v (Err fault, inr is, gives) h some other =
    refusal fault v gives (key_stops answers b fault v is h)

-- ---- opening by the file key that was found

-- a key whose MAC was verified is the one that was chosen
same_key : (t : Bool) (j k : FileKey) → ◌≡◌ {A = Result FileKey Fault} (cond t (Ok j) (Err BadMac)) (Ok k) → j ≡ k
same_key true j k e = ok_ok e
same_key false j k e = absurd (cc)

-- the file key of a header is also the one for an identity that returns this key
key_again : (answers : Answering) (p : HeaderParts) (k : FileKey) → header_key answers p ≡ Ok k
    → header_key (by_file_key k.0) p ≡ Ok k
key_again answers p k e = grind (arith, cond, tested_key, same_key)

pub opens_unlocked : (answers : Answering) (b old new : Bytes) (report : Report) (v : Reading Fault)
    → Unlocks answers b old new report 0 → IsVerdict limits answers b v → IsVerdict limits (by_file_key new) b v
opens_unlocked answers b old new report v (Err fault, is, gives) h = absurd (some_code fault (sym gives.returned))
opens_unlocked answers b old new report v (Ok found, finds, gives) h =
    let f = found_key answers b found finds in
    rw gives.2 (record {
      header = Ok f.head;
      header_verdict = f.verdict;
      is = judged_is answers b v (Ok f.head) f.verdict h
          ∙ ap (reading_under limits (drop (length f.head.text) b))
          (f.key ∙ sym (key_again answers (parts_of f.head) found.key f.key));
    })

-- ---- where the chunks begin

-- a fault of finding the file key is a result of finding the start
pub start_failed : (answers : Answering) {b : Bytes} (fault : Fault) → FindsKey answers b (Err fault)
    → FindsStart answers b (Err fault)
start_failed answers fault (inl memory) = inl (ap Err (err_err {A = Unlocked} fault OutOfMemory memory))
start_failed answers fault (inr (Err e, verdict, is)) =
    inr (Err e, verdict, ap Err (err_err {A = Unlocked} fault (header_fault e) is))
start_failed answers fault (inr (Ok head, verdict, is)) =
    inr (Ok head, verdict, rw (fault_with (length head.text) is) refl)

-- a file key was found: the bytes after the header give the start, or `NonceTruncated`
start_after : (answers : Answering) (b : Bytes) (found : Unlocked) (start : Result Start Fault)
    → FindsKey answers b (Ok found)
    → start ≡ start_under found.header_len (drop found.header_len b) (Ok found.key) → FindsStart answers b start
start_after answers b found start finds is = grind (arith, found_key)

pub key_in_front : (answers : Answering) (b : Bytes) (found : Unlocked) → FindsKey answers b (Ok found)
    → found.header_len ≤ length b
key_in_front answers b found finds =
    let f = found_key answers b found finds in
    let w = begins_found b limits.max_header f.head f.verdict in
    omega (arith, f.len, ap length w.prefix, length-append f.head.text w.rest)

pub start_cut : (answers : Answering) {b rest : Bytes} (found : Unlocked) → FindsKey answers b (Ok found)
    → rest ≡ drop found.header_len b → length rest < 16 → FindsStart answers b (Err NonceTruncated)
start_cut answers {b} {rest} found finds back short =
    start_after answers b found (Err NonceTruncated) finds (rw (sym back, lt-ltb (length rest) 16 short) refl)

pub start_found : (answers : Answering) {b rest : Bytes} (nonce : Bytes) {key : Bytes} (found : Unlocked)
    → FindsKey answers b (Ok found) → rest ≡ drop found.header_len b → 16 ≤ length rest → nonce ≡ take 16 rest
    → key ≡ payload_key found.key nonce
    → FindsStart answers b (Ok (record { first = length b - length rest + 16; key = key }))
start_found answers {b} {rest} nonce {key} found finds back long nonce_is key_is =
    let low = key_in_front answers b found finds in
    start_after answers b found _ finds
    (grind (arith, low, back, length-drop found.header_len b, le-ltb (length rest) 16 long))

-- ---- what a start is

-- a file key was unlocked, sixteen bytes follow the header, and the chunks start after them
pub record StartsUnder (len : ℕ) (rest : Bytes) (key : Result FileKey Fault) (s : Start) : Type 0 where
  pub k : FileKey
  pub unlocks : key ≡ Ok k
  pub long : 16 ≤ length rest
  pub first : s.first ≡ len + 16

pub under : (len : ℕ) (rest : Bytes) (key : Result FileKey Fault) (s : Start) → Ok s ≡ start_under len rest key
    → StartsUnder len rest key s
under a b c d e = grind (arith, lt-ltb, ok_ok, le-ltb)

pub start_within : (answers : Answering) (b : Bytes) (start : Start) → FindsStart answers b (Ok start)
    → start.first ≤ length b
start_within answers b start (inl memory) = absurd (cc)
start_within answers b start (inr (Err e, verdict, is)) = absurd (cc)
start_within answers b start (inr (Ok found, verdict, is)) =
    let u = under (length found.text) (drop (length found.text) b) (header_key answers (parts_of found)) start is in
    omega (arith, u.long, u.first, length-drop (length found.text) b)

-- ---- what opening found

-- a payload was opened: there is a start
pub opened_start : (answers : Answering) (b : Bytes) (p : Payload) (report : Report) → Opens answers b p report 0
    → (s : Start) × IsStart answers b (Ok s) × StartsAt (Ok s) p report 0
opened_start a b c d e = grind (arith, some_code)

-- there is a start, or its fault, unless an allocation was refused
pub found_start : (answers : Answering) (b : Bytes) (p : Payload) (report : Report) (code : ℕ)
    → Opens answers b p report code → code ≢ 17
    → (start : Result Start Fault) × IsStart answers b start × StartsAt start p report code
found_start a b c d e f g = grind arith
