-- The verdict is a plaintext without fault exactly on age files for the key chosen.
use Rattle.age_file.proofs.Common.{arith, ◌≡◌, ◌↔◌, ◌⊎◌, ℕ, List, [], ◌∷◌, ◌++◌, length, drop, cond, true, false, Bool, sym, ◌∙◌, ap, refl, subst, Option, Some, None, Result, Ok, Err, option_map, result_map_both, bytes_eq, drop_at, none-some, bytes_eq-Decides, Bytes, HeaderFault, StanzaParts, HeaderParts, Head, header_mac, Found, BeginsWith, HeaderVerdict, UnlockFault, Memory, FileKey, Unwrapped, Key, choice, StreamFault, payload, Reading, stop, whole, payload_reading, ok_payload, payload_ok, Fault, MixedPassphrase, BadMac, OutOfMemory, Bounds, AgeFile, is_mixed, Answering, IsVerdict, found_key, header_fault, if_right, unlock_fault, reading_after, parts_of, reading_under, stream_fault, header_key, with_file_fault, IfErr}
use Rattle.age_header.proofs.VerdictUniqueLemmas as headers

-- no reading is both a plaintext without a fault and a fault without a plaintext
pub never_stops : (p : Bytes) (f : Fault) → whole p ≡ stop f → ⊥
never_stops p f h = none-some f (ap (λ (r : Reading Fault). r.fault) h)

pub no_stream_fault : (o : Option StreamFault) → option_map stream_fault o ≡ None → o ≡ None
no_stream_fault None h = refl
no_stream_fault (Some f) h = absurd (none-some (stream_fault f) (sym h))

-- a reading is whole if `with_file_fault` of it is
pub with_file_fault_whole : {p : Bytes} {r : Reading StreamFault} → whole p ≡ with_file_fault r → r ≡ whole p
with_file_fault_whole {p} {r} h = grind (arith, no_stream_fault)

-- a verdict is the reading after any header verdict on the same bytes
pub verdict_after : {limits : Bounds} {answers : Answering} {b : Bytes} {v : Reading Fault}
    (r : Result Found HeaderFault) → IsVerdict limits answers b v → HeaderVerdict b limits.max_header r
    → v ≡ reading_after limits answers b r
verdict_after {limits} {answers} {b} r i is = i.is ∙ ap (reading_after limits answers b)
    (headers.one_verdict b limits.max_header i.header r i.header_verdict is)

-- b is an age file of p for the file key that the identities choose
abbrev pub IsChosenFile : (limits : Bounds) (answers : Answering) (p b : Bytes) → Type 0
IsChosenFile limits answers p b =
    (stanzas : List StanzaParts) × (k : FileKey) × AgeFile limits k stanzas p b × (choice (answers stanzas) ≡ Ok k)

cond_else_err : {A F : Type 0} (t : Bool) (f : F) (a x : A) → ◌≡◌ {A = Result A F} (cond t (Ok a) (Err f)) (Ok x)
    → (t ≡ true) × (a ≡ x)
cond_else_err true f a x h = (refl, (cc))
cond_else_err false f a x h = absurd (cc)

-- k is the key chosen for an unmixed header (`is_mixed`), whose MAC is right under k
pub record HasKey (answers : Answering) (h : HeaderParts) (k : FileKey) : Type 0 where
  pub unmixed : is_mixed h.stanzas ≡ false
  pub chosen : choice (answers h.stanzas) ≡ Ok k
  pub mac : h.mac ≡ header_mac k.0 h.stanzas

-- the key chosen, and whether the header's MAC is right under that key; or why there is no key
abbrev pub tested_key : (h : HeaderParts) (chosen : Result FileKey UnlockFault) → Result (FileKey × Bool) Fault
tested_key h chosen = result_map_both (λ k. (k, bytes_eq h.mac (header_mac k.0 h.stanzas))) unlock_fault chosen

ok_tested : (h : HeaderParts) (c : Result FileKey UnlockFault) (k : FileKey) → if_right (tested_key h c) ≡ Ok k
    → (c ≡ Ok k) × (h.mac ≡ header_mac k.0 h.stanzas)
ok_tested a b c d = grind (arith, cond_else_err, bytes_eq-Decides)

pub unlocked_key : (answers : Answering) (h : HeaderParts) (k : FileKey) → header_key answers h ≡ Ok k
    → HasKey answers h k
unlocked_key answers h k is = grind (arith, cond, ok_tested)

pub key_unlocked : (answers : Answering) (h : HeaderParts) (k : FileKey) → HasKey answers h k
    → header_key answers h ≡ Ok k
key_unlocked answers h k has =
    rw (has.unmixed, has.chosen, (bytes_eq-Decides h.mac (header_mac k.0 h.stanzas)).1 has.mac) refl

-- what holds of each fault of finding a key holds of the fault of `header_key`
pub key_faults : (P : Fault → Type 0) → ((e : UnlockFault) → P (unlock_fault e)) → P BadMac → P MixedPassphrase
    → (answers : Answering) (h : HeaderParts) → IfErr (header_key answers h) P
key_faults P unlocking mac mixed answers h = go (is_mixed h.stanzas) (choice (answers h.stanzas))
  where
    tested : (right : Bool) (k : FileKey) → IfErr (if_right (Ok (k, right))) P
    tested true k = tt
    tested false k = mac

    go : (mixes : Bool) (r : Result FileKey UnlockFault)
        → IfErr (if_right (cond mixes (Err MixedPassphrase) (tested_key h r))) P
    go true r = mixed
    go false (Err e) = unlocking e
    go false (Ok k) = tested (bytes_eq h.mac (header_mac k.0 h.stanzas)) k

-- the result of `found_key`, from those of `unlock` and `tested`, or out of memory
pub tested_found : (answers : Answering) (h : HeaderParts) (chosen : Result FileKey UnlockFault)
    (r : Result (FileKey × Bool) Fault) → is_mixed h.stanzas ≡ false
    → (chosen ≡ Err Memory) ⊎ (chosen ≡ choice (answers h.stanzas)) → (r ≡ Err OutOfMemory) ⊎ (r ≡ tested_key h chosen)
    → (r ≡ Err OutOfMemory) ⊎ (r ≡ found_key answers h)
tested_found a b c d e f g = grind arith

-- what follows the header that begins a text
pub behind : (b : Bytes) (max : ℕ) (found : Found) (begins : BeginsWith b max found)
    → drop (length found.text) b ≡ begins.rest
behind b max found begins = ap (drop (length found.text)) begins.prefix
    ∙ drop_at found.text begins.rest (length found.text) refl

under_file : (limits : Bounds) (answers : Answering) (b p : Bytes) (found : Found)
    → BeginsWith b limits.max_header found
    → (c : Result FileKey Fault) → header_key answers (parts_of found) ≡ c
    → whole p ≡ reading_under limits (drop (length found.text) b) c → IsChosenFile limits answers p b
under_file limits answers b p found begins (Err f) is h = absurd (never_stops p f h)
under_file limits answers b p found begins (Ok k) is h =
    let rest : Bytes = drop (length found.text) b in
    let has = unlocked_key answers (parts_of found) k is in
    let body = ok_payload k rest p limits.max_chunks
    (with_file_fault_whole h) in (
      found.stanzas,
      k,
      record {
        header = found.text;
        nonce = body.nonce;
        head = subst (λ (m : Bytes). Head found.stanzas m found.text) has.mac begins.head;
        nonce_len = body.nonce_len;
        spelled = begins.prefix ∙ ap (λ x. found.text ++ x)
            (sym (behind b limits.max_header found begins) ∙ body.spelled);
        header_fits = begins.fits;
        chunks_fit = body.count;
        unmixed = has.unmixed;
      },
      has.chosen,
    )

judged_file : (limits : Bounds) (answers : Answering) (b p : Bytes) (r : Result Found HeaderFault)
    → HeaderVerdict b limits.max_header r
    → whole p ≡ reading_after limits answers b r → IsChosenFile limits answers p b
judged_file limits answers b p (Err f) v h = absurd (never_stops p (header_fault f) h)
judged_file limits answers b p (Ok found) v h = grind (arith, under_file limits answers b p found (headers.begins_found b limits.max_header found v) (header_key answers (parts_of found)) refl h)

-- an age file for the chosen key reads whole
pub file_whole : (limits : Bounds) (answers : Answering) (b p : Bytes) (stanzas : List StanzaParts) (k : FileKey)
    → AgeFile limits k stanzas p b
    → choice (answers stanzas) ≡ Ok k → IsVerdict limits answers b (whole p)
file_whole limits answers b p stanzas k file chosen =
    let mac : Bytes = header_mac k.0 stanzas in
    let found : Found = record { stanzas = stanzas; mac = mac; text = file.header } in
    let body : Bytes = payload k file.nonce p in
    let begins : BeginsWith b limits.max_header found =
    record { rest = body; head = file.head; prefix = file.spelled; fits = file.header_fits } in
    let reads : payload_reading k limits.max_chunks (drop (length file.header) b) ≡ whole p =
    ap (payload_reading k limits.max_chunks) (behind b limits.max_header found begins)
    ∙ payload_ok k body p limits.max_chunks
    (record { nonce = file.nonce; nonce_len = file.nonce_len; spelled = refl; count = file.chunks_fit }) in
    record {
      header = Ok found;
      header_verdict = headers.found_begins b limits.max_header found begins;
      is = sym (ap (reading_under limits (drop (length file.header) b))
          (key_unlocked answers (parts_of found) k (record { unmixed = file.unmixed; chosen = chosen; mac = refl }))
          ∙ ap with_file_fault reads);
    }

pub both_ways : (limits : Bounds) (answers : Answering) (b p : Bytes)
    → IsVerdict limits answers b (whole p) ↔ IsChosenFile limits answers p b
both_ways limits answers b p = (
  (λ v. judged_file limits answers b p v.header v.header_verdict v.is),
  (λ h. file_whole limits answers b p h.0 h.1 h.2 h.3),
)

pub one_verdict : (limits : Bounds) (answers : Answering) (b : Bytes) (v w : Reading Fault)
    → IsVerdict limits answers b v → IsVerdict limits answers b w → v ≡ w
one_verdict limits answers b v w h k = verdict_after k.header h k.header_verdict ∙ sym k.is

-- for one identity that returns its key, an age file reads whole
pub opens_whole : (limits : Bounds) (meaning : List StanzaParts → Unwrapped) (k : FileKey) (stanzas : List StanzaParts)
    (p b : Bytes)
    → meaning stanzas ≡ Key k → AgeFile limits k stanzas p b → IsVerdict limits (λ s. meaning s ∷ []) b (whole p)
opens_whole limits meaning k stanzas p b means file =
    file_whole limits (λ s. meaning s ∷ []) b p stanzas k file (ap (λ u. choice (u ∷ [])) means)
