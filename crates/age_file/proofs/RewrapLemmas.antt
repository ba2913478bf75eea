-- What rewrapping a file returns and writes, and what it keeps.
use Rattle.age_file.proofs.Common.{◌≡◌, ◌⊎◌, ◌↔◌, ◌++◌, length, drop, sym, ◌∙◌, ap, refl, arith, inl, inr, Result, Ok, Err, Appends, Appends-trans, Keeps-refl, drop_at, HeaderFault, Bytes, Flow, WritesPart, Known, Seen, flow, move_of, HeaderParts, header_mac, Refuses, BeginsWith, Found, HeaderVerdict, of_map, of_more, of_then, FileKey, choice, Reading, Fault, TooManyChunks, Read, Write, OutOfMemory, Bounds, Copies, IsLate, Inspects, FailsHeading, Gathering, IsNewHeader, BeginsRewrapped, IsRewrapped, RefusesRewrap, Rewrapped, Rewraps, RewrapsText, Answering, IsVerdict, finding, header_fault, reading_after, parts_of, reading_under, header_key, length-append, IfErr}
use Rattle.age_header.specs.declared.fault.HeaderFault.TheVariants as header
use Rattle.age_header.proofs.VerdictUniqueLemmas as headers
use Rattle.age_file.proofs.CopiesLemmas.{part_after, part_more}
use Rattle.age_file.proofs.DecryptLemmas.{IsHeaded}
use Rattle.age_file.proofs.EncryptLemmas.{IsEarly, early_heading}
use Rattle.age_file.proofs.FileLemmas.{behind, key_faults, key_unlocked, verdict_after}

refused : {limits : Bounds} (answers : Answering) {gathered : FileKey → Gathering} {b : Bytes} (old : Known)
    (fault : Fault) → IsEarly fault → RefusesRewrap limits answers gathered b fault
    → RewrapsText limits answers gathered b (move_of old old) (Err fault)
refused a b c d e = grind arith

no_header : (limits : Bounds) (answers : Answering) (gathered : FileKey → Gathering) (b : Bytes) (old : Known)
    (g : HeaderFault)
    → Refuses b limits.max_header g → RewrapsText limits answers gathered b (move_of old old) (Err (header_fault g))
no_header limits answers gathered b old header.Read h = inl (Keeps-refl old)
no_header limits answers gathered b old header.Memory h = tt
no_header limits answers gathered b old g h = (Err g, h, refl)

pub inspect_rewraps : (limits : Bounds) (answers : Answering) (gathered : FileKey → Gathering) {come mid : Seen}
    (old : Known) {fault : Fault} → Inspects limits (flow come mid) (Err fault)
    → Rewraps limits answers gathered (flow come mid) (move_of old old) (Err fault)
inspect_rewraps limits answers gathered old (g, is, h) =
    rw is (of_map h (λ b refuses. no_header limits answers gathered b old g refuses))

-- a fault of unlocking is not one of a device, nor too many chunks (`IsEarly`)
early_unlocked : (answers : Answering) (h : HeaderParts) (fault : Fault) → header_key answers h ≡ Err fault
    → IsEarly fault
early_unlocked answers h fault e = grind (arith, key_faults)

module _ {limits : Bounds} (answers : Answering) (gathered : FileKey → Gathering) {come mid : Seen} {h : HeaderParts}
    (i : IsHeaded limits come mid h) where
  pub locked_rewraps : (old : Known) {r : Result (Unit {0}) Fault} (fault : Fault) → r ≡ Err fault
      → (◌≡◌ {A = Result FileKey Fault} (Err fault) (Err OutOfMemory)) ⊎ (Err fault ≡ header_key answers h)
      → Rewraps limits answers gathered (flow come mid) (move_of old old) r
  locked_rewraps old fault e (inl is) = let o : fault ≡ OutOfMemory = cc in rw (e, o) (of_more i.took (λ d end. tt))
  locked_rewraps old fault e (inr is) = rw e (of_more i.took (λ d end. refused answers old fault
      (early_unlocked answers h fault (sym is)) (Ok (finding i.text h), i.verdict d, inl (sym is))))

  module _ {key : FileKey} (chosen : header_key answers h ≡ Ok key) where
    -- a fault with which no new header is made is a result of rewrapping
    pub heading_rewraps : (old : Known) {r : Result (Unit {0}) Fault} (fault : Fault) → r ≡ Err fault
        → FailsHeading limits key (gathered key) fault
        → Rewraps limits answers gathered (flow come mid) (move_of old old) r
    heading_rewraps old fault e (inl is) = rw (e, is) (of_more i.took (λ d end. tt))
    heading_rewraps old fault e (inr refusal) = rw e (of_more i.took (λ d end. refused answers old fault
        (early_heading limits key (gathered key) fault (inr refusal))
        (Ok (finding i.text h), i.verdict d, inr (key, chosen, refusal))))

    module _ {text : Bytes} (new : IsNewHeader limits key (gathered key) text) where
      -- the file with the new header, if the source returns `bytes` after the old header
      new_file : (bytes : Bytes) → IsRewrapped limits answers gathered (i.text ++ bytes) (text ++ bytes)
      new_file bytes = (
        record {
          found = finding i.text h;
          header = i.verdict bytes;
          key = key;
          chosen = chosen;
          stanzas = new.stanzas;
          unmixed = new.heading.unmixed;
          text = text;
          head = new.heading.head;
          fits = new.heading.fits;
          spelled = ap (λ r. text ++ r) (sym (drop_at i.text bytes (length i.text) refl));
        },
        new.heading.gives,
      )

      -- if a write fails within the new header, `Write` is a result of rewrapping
      pub begun_rewraps : (a b : Known) → WritesPart (move_of a b) text
          → Rewraps limits answers gathered (flow come mid) (move_of a b) (Err Write)
      begun_rewraps a b part = of_more i.took (λ d end. (text ++ d, new_file d, part_more (move_of a b) text d part))

      -- the new header and then a prefix of the bytes to be copied begin the rewrapped file
      copied_part : (a b c : Known) → Appends a b text → (bytes : Bytes) → WritesPart (move_of b c) bytes
          → BeginsRewrapped limits answers gathered (i.text ++ bytes) (move_of a c)
      copied_part a b c front bytes part = (text ++ bytes, new_file bytes, part_after a b c text bytes front part)

      pub copied_rewraps : (to : Seen) (a b c : Known) (r : Result (Unit {0}) Fault)
          → Appends a b text → Copies (flow mid to) (move_of b c) r
          → Rewraps limits answers gathered (flow come to) (move_of a c) r
      copied_rewraps to a b c (Ok done) front copied = of_then i.took copied (λ bytes wrote.
          (text ++ bytes, new_file bytes, Appends-trans a b c text bytes front wrote))
      copied_rewraps to a b c (Err Read) front copied =
          of_then i.took copied (λ bytes wrote. inr (copied_part a b c front bytes wrote))
      copied_rewraps to a b c (Err Write) front copied = of_then i.took copied (copied_part a b c front)
      copied_rewraps to a b c (Err TooManyChunks) front ((copy, put-copy, much), copied) =
          of_then i.took copied (λ bytes wrote. (
            copied_part a b c front bytes wrote.0,
            omega (arith, length-append i.text bytes, wrote.1),
            (
              text ++ copy,
              Appends-trans a b c text copy front put-copy,
              omega (arith, length-append text copy, much),
            ),
          ))
      copied_rewraps to a b c (Err fault) front copied = absurd copied

-- a fault of copying is late (`IsLate`)
pub copies_late : (K : Type 0) (source : Flow) (old new : Known) (r : Result (Unit {0}) Fault)
    → Copies source (move_of old new) r → IfErr r (λ fault. IsLate fault ⊎ K)
copies_late a b c d e f = grind arith

-- ---- the law

-- for identities that choose its file key, a rewrapped file has the verdict of the old file
pub keeps : (limits : Bounds) (old new : Answering) (b c : Bytes) (is : Rewrapped limits old b c)
    → choice (new is.stanzas) ≡ Ok is.key → (v : Reading Fault) → IsVerdict limits old b v ↔ IsVerdict limits new c v
keeps limits old new b c w chosen v = (
  (λ h. record { header = Ok found; header_verdict = told; is = verdict_after (Ok w.found) h w.header ∙ sym same }),
  (λ h. record { header = Ok w.found; header_verdict = w.header; is = verdict_after (Ok found) h told ∙ same }),
)
  where
    found : Found
    found = record { stanzas = w.stanzas; mac = header_mac w.key.0 w.stanzas; text = w.text }

    begins : BeginsWith c limits.max_header found
    begins = record { rest = drop (length w.found.text) b; head = w.head; prefix = w.spelled; fits = w.fits }

    told : HeaderVerdict c limits.max_header (Ok found)
    told = headers.found_begins c limits.max_header found begins

    same : reading_after limits new c (Ok found) ≡ reading_after limits old b (Ok w.found)
    same =
        ap (λ t. reading_under limits t (header_key new (parts_of found))) (behind c limits.max_header found begins)
        ∙ ap (reading_under limits (drop (length w.found.text) b)) (key_unlocked new (parts_of found) w.key
        (record { unmixed = w.unmixed; chosen = chosen; mac = refl }) ∙ sym w.chosen)
