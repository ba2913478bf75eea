-- What is saved of a file, and the verdict on it.
use Rattle.age_file.proofs.Common.{refl, false, true, ◌≡◌, ◌↔◌, ◌⊎◌, ◌∙◌, ◌++◌, ◌≤◌, [], length, drop, sym, ap, subst, List, inl, inr, arith, None, Result, Ok, Err, ◌&&◌, if◌then◌else◌, option_map, lt-ltb, take_all, HeaderFault, FileKey, Bytes, Moved, Took, Found, StreamFault, Reading, payload_reading, stop, whole, IsOfPieces, Part, Reports, Saves, SavesParts, SavesPayload, LossesMoved, losses, is_whole, payload_parts, salvaged_text, payload_exactly, payload_plaintext, payload_whole, Fault, BadMac, OutOfMemory, Read, Write, TooManyChunks, Bounds, IsLate, SavesAfter, SavesFile, SavesUnder, is_whole_file, salvaged_file, SalvagedFile, Answering, IsVerdict, reading_after, parts_of, reading_under, stream_fault, found_key, if_right, with_file_fault, Bool}
use Rattle.age_stream.specs.declared.fault.StreamFault.TheVariants as stream
use Rattle.age_file.proofs.FileLemmas.{never_stops, no_stream_fault, verdict_after, with_file_fault_whole}

-- the verdict on a file whose payload was saved: the payload's if the MAC is right, else `BadMac`
abbrev verdict_of : (has_right_mac : Bool) (payload : Reading Fault) → Reading Fault
verdict_of has_right_mac payload = if has_right_mac then payload else stop BadMac

-- what was saved of the payload that the verdict v is about
record SavedOf (limits : Bounds) (v : Reading Fault) (sink : Moved) (lost : LossesMoved) (s : SalvagedFile)
    : Type 0 where
  pub key : FileKey
  pub rest : Bytes
  pub reads : v ≡ verdict_of s.has_right_mac (with_file_fault (payload_reading key limits.max_chunks rest))
  pub long : 16 ≤ length rest
  pub saves : SavesParts limits.max_chunks (payload_parts key rest) sink lost (Ok s.payload)

under_right : (limits : Bounds) (rest : Bytes) (key : FileKey) (has_right_mac : Bool)
    → reading_under limits rest (if_right (Ok (key, has_right_mac)))
    ≡ verdict_of has_right_mac (with_file_fault (payload_reading key limits.max_chunks rest))
under_right limits rest key true = refl
under_right limits rest key false = refl

-- if all parts were saved, their texts were written and their losses reported
written : (ps : List Part) (sink : Moved) (lost : LossesMoved) → Saves (length ps) ps sink lost
    → Took sink (salvaged_text ps) × Reports lost (losses 0 0 ps)
written ps sink lost h = rw (take_all (length ps) ps (omega arith)) at h

-- what was written begins with the verdict's plaintext
begins_with : (has_right_mac : Bool) (r : Reading Fault) (text rest : Bytes) → text ≡ r.plaintext ++ rest
    → (more : Bytes) × (text ≡ (verdict_of has_right_mac r).plaintext ++ more)
begins_with true r text rest is = (rest, is)
begins_with false r text rest is = (text, refl)

-- a verdict without fault is that on the payload
right_whole : (has_right_mac : Bool) (r : Reading Fault) (plain : Bytes) → whole plain ≡ verdict_of has_right_mac r
    → whole plain ≡ r
right_whole true r plain is = is
right_whole false r plain is = absurd (never_stops plain BadMac is)

-- a file is whole exactly if its verdict has no fault, if the same holds of its payload
exactly_right : (has_right_mac payload : Bool) (r : Reading Fault) → (payload ≡ true) ↔ (r.fault ≡ None)
    → ((has_right_mac && payload) ≡ true) ↔ ((verdict_of has_right_mac r).fault ≡ None)
exactly_right true payload r same = same
exactly_right false payload r same = (λ is. absurd (cc), λ is. absurd (cc))

-- a fault before which some of a payload may have been saved is late (`IsLate`)
late_pieces : (g : StreamFault) → IsOfPieces g → IsLate (stream_fault g)
late_pieces a b = grind arith

pub quiet_pieces : {P Q : Type 0} (g : StreamFault) → IsOfPieces g ⊎ (P × Q) → IsLate (stream_fault g) ⊎ P
quiet_pieces g (inl h) = inl (late_pieces g h)
quiet_pieces g (inr h) = inr h.0

module _ (limits : Bounds) (answers : Answering) (b : Bytes) (v : Reading Fault) (sink : Moved)
    (lost : LossesMoved) where
  saved_of : (s : SalvagedFile) → IsVerdict limits answers b v → SavesFile limits answers b sink lost (Ok s)
      → SavedOf limits v sink lost s
  saved_of s i f = go f.header (verdict_after f.header i f.header_verdict) f.saves
    where
      under : (rest : Bytes) (key : Result (FileKey × Bool) Fault) → v ≡ reading_under limits rest (if_right key)
          → SavesUnder limits rest key sink lost (Ok s) → SavedOf limits v sink lost s
      under rest (Err fault) is (e, h) = absurd (cc)
      under rest (Ok k) is (Err g, e, h) = absurd (cc)
      under rest (Ok k) is (Ok t, e, h) =
          let same : s ≡ salvaged_file k.1 t = cc in
          let reads = is ∙ under_right limits rest k.0 k.1 in
          rw same (record { key = k.0; rest = rest; reads = reads; long = h.0; saves = h.1 })

      go : (header : Result Found HeaderFault) → v ≡ reading_after limits answers b header
          → SavesAfter limits answers b header sink lost (Ok s) → SavedOf limits v sink lost s
      go (Err g) is (e, h) = absurd (cc)
      go (Ok found) is h = under (drop (length found.text) b) (found_key answers (parts_of found)) is h

  pub saved_plaintext : (s : SalvagedFile) → IsVerdict limits answers b v → SavesFile limits answers b sink lost (Ok s)
      → (rest : Bytes) × Took sink (v.plaintext ++ rest)
  saved_plaintext s i f =
      let o = saved_of s i f in
      let ps : List Part = payload_parts o.key o.rest in
      let begins = payload_plaintext o.key o.rest limits.max_chunks in
      let (text, is) = begins_with s.has_right_mac (with_file_fault (payload_reading o.key limits.max_chunks o.rest))
      (salvaged_text ps) begins.0 (rw (take_all limits.max_chunks ps o.saves.0) at begins.1) in
      (text, subst (Took sink) (rw (← o.reads) at is) (written ps sink lost o.saves.1).0)

  pub saved_exactly : (s : SalvagedFile) → IsVerdict limits answers b v → SavesFile limits answers b sink lost (Ok s)
      → (is_whole_file s ≡ true) ↔ (v.fault ≡ None)
  saved_exactly s i f =
      let o = saved_of s i f in
      let law = payload_exactly o.key o.rest limits.max_chunks in
      let reading = payload_reading o.key limits.max_chunks o.rest in
      let same = exactly_right s.has_right_mac (is_whole s.payload) (with_file_fault reading) (
        λ is. ap (option_map stream_fault) (law.1 (o.long, o.saves.0, ap is_whole (sym o.saves.2) ∙ is)),
        λ none. ap is_whole o.saves.2 ∙ (law.0 (no_stream_fault reading.fault none)).2,
      ) in
      subst (λ (r : Reading Fault). (is_whole_file s ≡ true) ↔ (r.fault ≡ None)) (sym o.reads) same

  pub saved_fault : (fault : Fault) → IsVerdict limits answers b v → SavesFile limits answers b sink lost (Err fault)
      → IsLate fault ⊎ (fault ≡ OutOfMemory) ⊎ (v ≡ stop fault) ⊎ (v ≡ stop BadMac)
  saved_fault fault i f = go f.header (verdict_after f.header i f.header_verdict) f.saves
    where
      Explained : Type 0
      Explained = IsLate fault ⊎ (fault ≡ OutOfMemory) ⊎ (v ≡ stop fault) ⊎ (v ≡ stop BadMac)

      piece : (right : Bool) (k : FileKey) (rest : Bytes) (g : StreamFault)
          → v ≡ verdict_of right (with_file_fault (payload_reading k limits.max_chunks rest))
          → ◌≡◌ {A = Result SalvagedFile Fault} (Err fault) (Err (stream_fault g))
          → SavesPayload k limits.max_chunks rest sink lost (Err g) → Explained
      piece right k rest stream.Memory is e h = inr (inl (cc))
      piece true k rest stream.NonceTruncated is e h = inr (inr (inl (is ∙ rw (lt-ltb (length rest) 16 h.0) (cc))))
      piece false k rest stream.NonceTruncated is e h = inr (inr (inr is))
      piece right k rest stream.Read is e h = let same : fault ≡ Read = cc in inl (rw same tt)
      piece right k rest stream.Write is e h = let same : fault ≡ Write = cc in inl (rw same tt)
      piece right k rest stream.TooManyChunks is e h = let same : fault ≡ TooManyChunks = cc in inl (rw same tt)
      piece right k rest g is e h = absurd h.1

      under : (rest : Bytes) (key : Result (FileKey × Bool) Fault) → v ≡ reading_under limits rest (if_right key)
          → SavesUnder limits rest key sink lost (Err fault) → Explained
      under rest (Err g) is (e, h) = inr (inr (inl (cc)))
      under rest (Ok k) is (Ok t, e, h) = absurd (cc)
      under rest (Ok k) is (Err g, e, h) = piece k.1 k.0 rest g (is ∙ under_right limits rest k.0 k.1) e h

      go : (header : Result Found HeaderFault) → v ≡ reading_after limits answers b header
          → SavesAfter limits answers b header sink lost (Err fault) → Explained
      go (Err g) is (e, h) = inr (inr (inl (cc)))
      go (Ok found) is h = under (drop (length found.text) b) (found_key answers (parts_of found)) is h

pub saved_whole : (limits : Bounds) (answers : Answering) (b plain : Bytes) (sink : Moved) (lost : LossesMoved)
    (s : SalvagedFile) → IsVerdict limits answers b (whole plain) → SavesFile limits answers b sink lost (Ok s)
    → Took sink plain × Reports lost []
saved_whole limits answers b plain sink lost s i f =
    let o = saved_of limits answers b (whole plain) sink lost s i f in
    let a = payload_whole o.key o.rest plain limits.max_chunks (with_file_fault_whole (right_whole s.has_right_mac
    (with_file_fault (payload_reading o.key limits.max_chunks o.rest)) plain o.reads)) in
    rw (a.is, a.none 0) at (written (payload_parts o.key o.rest) sink lost o.saves.1)
