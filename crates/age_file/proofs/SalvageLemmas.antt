-- What salvaging returns, from what its parts return.
use Rattle.age_file.proofs.Common.{arith, ◌≡◌, ◌⊎◌, ◌++◌, length, refl, subst, inl, inr, Result, Ok, Err, ℕ, result_map_both, Appends-nil, drop_at, HeaderFault, FileKey, Bytes, Known, Moved, Seen, flow, move_of, HeaderParts, Refuses, of_map, of_more, of_then, StreamFault, Salvaged, EndsAt, EndsSaving, KnownLosses, Salvages, SavesPayload, LossesMoved, losses_of, reports_none, Fault, OutOfMemory, Bounds, TookUpTo, Inspects, SalvagedFile, SalvagesFile, SalvagesText, SavesFile, SavesNone, SavesUnder, salvaged_file, Answering, finding, header_fault, stream_fault, found_key, Bool}
use Rattle.age_header.specs.declared.fault.HeaderFault.TheVariants as header
use Rattle.age_stream.specs.declared.fault.StreamFault.TheVariants as stream
use Rattle.age_file.proofs.DecryptLemmas.{IsHeaded, payload_takes}

saves_none : (old : Known) (lost : KnownLosses) → SavesNone (move_of old old) (losses_of lost lost)
saves_none old lost = (Appends-nil old, reports_none lost)

-- the result for a file, if a fault came before its payload
stopped : (limits : Bounds) (answers : Answering) (b : Bytes) (old : Known) (lost : KnownLosses) (fault : Fault)
    → SavesFile limits answers b (move_of old old) (losses_of lost lost) (Err fault)
    → SalvagesText limits answers b (move_of old old) (losses_of lost lost) (Err fault)
stopped a b c d e f g = grind (arith, saves_none)

-- ---- the header

header_text : (limits : Bounds) (answers : Answering) (b : Bytes) (old : Known) (lost : KnownLosses) (g : HeaderFault)
    → Refuses b limits.max_header g
    → SalvagesText limits answers b (move_of old old) (losses_of lost lost) (Err (header_fault g))
header_text limits answers b old lost header.Read h = inl (saves_none old lost)
header_text limits answers b old lost header.Memory h = saves_none old lost
header_text limits answers b old lost g h =
    record { header = Err g; header_verdict = h; saves = (refl, saves_none old lost) }

pub inspect_salvages : (limits : Bounds) (answers : Answering) {come mid : Seen} (old : Known) (lost : KnownLosses)
    {fault : Fault} → Inspects limits (flow come mid) (Err fault)
    → SalvagesFile limits answers (flow come mid) (move_of old old) (losses_of lost lost) (Err fault)
inspect_salvages limits answers old lost (g, is, h) =
    rw is (of_map h (λ b refuses. header_text limits answers b old lost g refuses))

module _ {limits : Bounds} (answers : Answering) {come mid : Seen} {h : HeaderParts}
    (i : IsHeaded limits come mid h) where
  -- the result for the bytes after a header that was read is the result for the file
  after_header : (key : Result (FileKey × Bool) Fault) (rest : Bytes) {sink : Moved} {lost : LossesMoved}
      {r : Result SalvagedFile Fault} → key ≡ found_key answers h → SavesUnder limits rest key sink lost r
      → SavesFile limits answers (i.text ++ rest) sink lost r
  after_header key rest {sink} {lost} {r} is s = record {
    header = Ok (finding i.text h);
    header_verdict = i.verdict rest;
    saves = rw (drop_at i.text rest (length i.text) refl) (subst (λ k. SavesUnder limits rest k sink lost r) is s);
  }

  -- a fault of finding the key is a result of salvaging, and nothing is written or reported
  pub locked_salvages : (old : Known) (lost : KnownLosses) {fault : Fault}
      → (◌≡◌ {A = Result (FileKey × Bool) Fault} (Err fault) (Err OutOfMemory)) ⊎ (Err fault ≡ found_key answers h)
      → SalvagesFile limits answers (flow come mid) (move_of old old) (losses_of lost lost) (Err fault)
  locked_salvages old lost {fault} (inl memory) =
      let e : fault ≡ OutOfMemory = cc in rw e (of_more i.took (λ d end. saves_none old lost))
  locked_salvages old lost {fault} (inr key) =
      of_more i.took (λ d end. stopped limits answers (i.text ++ d) old lost fault
      (after_header (Err fault) d key (refl, saves_none old lost)))

  payload_text : (k : FileKey × Bool) (c : Bytes) (sink : Moved) (lost : LossesMoved) (r : Result Salvaged StreamFault)
      → Ok k ≡ found_key answers h → SavesPayload k.0 limits.max_chunks c sink lost r
      → SalvagesText limits answers (i.text ++ c) sink lost (result_map_both (salvaged_file k.1) stream_fault r)
  payload_text k c sink lost (Ok t) key x = after_header (Ok k) c key (Ok t, refl, x)
  payload_text k c sink lost (Err stream.Read) key x = inr (after_header (Ok k) c key (Err stream.Read, refl, x))
  payload_text k c sink lost (Err stream.Memory) key x = x
  payload_text k c sink lost (Err fault) key x = after_header (Ok k) c key (Err fault, refl, x)

  pub payload_salvages : (r : Result Salvaged StreamFault) {to : Seen} (sink : Moved) (losses : LossesMoved)
      {k : FileKey × Bool} {max : ℕ}
      → (◌≡◌ {A = Result (FileKey × Bool) Fault} (Ok k) (Err OutOfMemory)) ⊎ (Ok k ≡ found_key answers h)
      → max ≡ limits.max_chunks → Salvages k.0 max (flow mid to) sink losses r
      → SalvagesFile limits answers (flow come to) sink losses (result_map_both (salvaged_file k.1) stream_fault r)
  payload_salvages r sink losses (inl memory) same w = absurd (cc)
  payload_salvages r sink losses {k} (inr key) same w = of_then i.took w (λ c x. payload_text k c sink losses r key
      (subst (λ m. SavesPayload k.0 m c sink losses r) same x))

-- how much was read
pub salvage_takes : {limits : Bounds} {come mid : Seen} (to : Seen) (old new : Known) {h : HeaderParts} {max : ℕ}
    (fault : StreamFault) → Inspects limits (flow come mid) (Ok h) → max ≡ limits.max_chunks
    → EndsSaving max (flow mid to) (move_of old new) fault
    → TookUpTo limits (flow come to) (move_of old new) (stream_fault fault)
salvage_takes {mid} to old new stream.Read i same e = tt
salvage_takes {mid} to old new stream.NonceTruncated i same e = tt
salvage_takes {mid} to old new stream.Memory i same e = tt
salvage_takes {mid} to old new fault i same e =
    payload_takes mid fault i
    (inr (subst (λ m. EndsAt m 16 (flow mid to) (move_of old new) fault) same e))
