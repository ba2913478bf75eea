-- How much of a file was read at a fault.
use Rattle.age_file.proofs.Common.{◌≡◌, ◌⊎◌, ◌+◌, [], arith, inl, inr, refl, Result, Err, Ok, Appends-nil, Appends, ⊤, IfErr, Bytes, Flow, GaveAtMost, Known, Moved, Seen, Took, flow, flow_by, move_of, HeaderParts, FileKey, StreamFault, EndsAt, StartsReader, Bounds, Fault, Read, TooManyChunks, Write, Copies, CopiesAhead, GaveAhead, buffer_size, IsLate, Inspects, ReadsFront, TookWhileRewrapping, stream_fault, begins_found, finding, ℕ, NonceTruncated}
use Rattle.age_stream.specs.declared.fault.StreamFault.TheVariants as stream
use Rattle.age_file.proofs.CopiesLemmas.{ahead_then}

pub front_gave : (limits : Bounds) (source : Flow) (h : HeaderParts) → Inspects limits source (Ok h)
    → GaveAtMost limits.max_header source
front_gave limits source h (text, gave, found) =
    (text, gave, (begins_found text limits.max_header (finding text h) found).fits)

-- ---- of a file that is rewrapped

-- at most n bytes were read, so at most n + m more than were written
pub front_ahead : {n : ℕ} (m : ℕ) {source : Flow} {sink : Moved} (written : Bytes) → GaveAtMost n source
    → Took sink written → GaveAhead (n + m) source sink
front_ahead m written (given, gave, few) took =
    record { given = given; gave = gave; written = written; took = took; within = omega (arith, few) }

-- whatever fault comes before the first write
took_front : (limits : Bounds) (source : Flow) (old : Known) (fault : Fault) → GaveAtMost limits.max_header source
    → TookWhileRewrapping limits source (move_of old old) fault
took_front limits source old Read h = tt
took_front limits source old Write h = front_ahead buffer_size [] h (Appends-nil old)
took_front limits source old TooManyChunks h = front_ahead buffer_size [] h (Appends-nil old)
took_front limits source old fault h = h

-- the fault of reading the old header
pub read_took : (limits : Bounds) (source : Flow) (old : Known) (fault : Fault) → ReadsFront limits source fault
    → TookWhileRewrapping limits source (move_of old old) fault
read_took limits source old fault (inl e) = rw e tt
read_took limits source old fault (inr h) = took_front limits source old fault h

-- a fault after the old header was read and before anything was written
pub headed_took : (limits : Bounds) (source : Flow) (old : Known) (h : HeaderParts) (r : Result ⊤ Fault)
    → Inspects limits source (Ok h) → IfErr r (TookWhileRewrapping limits source (move_of old old))
headed_took limits source old h (Ok done) is = tt
headed_took limits source old h (Err fault) is = took_front limits source old fault (front_gave limits source h is)

-- the fault of copying, after the new header was written
module _ (limits : Bounds) {come mid : Seen} (to : Seen) (old put new : Known) (h : HeaderParts) (text : Bytes)
    (is : Inspects limits (flow come mid) (Ok h)) (front : Appends old put text) where
  joined : (fault : Fault) → (fault ≡ Read → ⊥) → CopiesAhead (flow mid to) (move_of put new) fault
      → GaveAhead (limits.max_header + buffer_size) (flow come to) (move_of old new)
  joined fault other (inl e) = absurd (other e)
  joined fault other (inr a) =
      let (given, gave, few) = front_gave limits (flow come mid) h is in
      ahead_then text buffer_size (limits.max_header + buffer_size) gave front (omega (arith, few)) a

  pub copied_took : (r : Result ⊤ Fault) → Copies (flow mid to) (move_of put new) r
      → IfErr r (CopiesAhead (flow mid to) (move_of put new))
      → IfErr r (TookWhileRewrapping limits (flow come to) (move_of old new))
  copied_took (Ok done) c a = tt
  copied_took (Err Read) c a = tt
  copied_took (Err Write) c a = joined Write (λ e. cc) a
  copied_took (Err TooManyChunks) c a = joined TooManyChunks (λ e. cc) a
  copied_took (Err f) c a = absurd c

-- the fault of starting a payload after a header
pub started_front : (limits : Bounds) {S : Type 0} (to_come : S → Known) (gave : S → Bytes → Type 0) (failed : S → ℕ)
    {old mid new : S} (h : HeaderParts) (k : FileKey) (max : ℕ) (f : StreamFault)
    → Inspects limits (flow_by to_come gave old mid) (Ok h)
    → StartsReader to_come gave failed k max mid new (Err f)
    → IsLate (stream_fault f) ⊎ ((stream_fault f ≡ NonceTruncated)
    ⊎ GaveAtMost limits.max_header (flow_by to_come gave old new))
started_front limits to_come gave failed {old} {mid} h k max f is (inl (memory, same)) =
    inr (inr (rw same (front_gave limits (flow_by to_come gave old mid) h is)))
started_front limits to_come gave failed h k max stream.NonceTruncated is (inr misses) = inr (inl refl)
started_front limits to_come gave failed h k max stream.Memory is (inr misses) = grind arith
started_front limits to_come gave failed h k max f is (inr misses) = inl tt

-- a fault of a piece, a read or a write is late (`IsLate`)
pub ended_late : {max before : ℕ} {source : Flow} {sink : Moved} (f : StreamFault)
    → (f ≡ stream.Read) ⊎ EndsAt max before source sink f → IsLate (stream_fault f)
ended_late a b = grind arith
