-- What decrypting returns, from what its parts return.
use Rattle.age_file.proofs.Common.{◌≡◌, ◌⊎◌, ◌+◌, ◌*◌, ◌/◌, ◌≤◌, ℕ, ◌++◌, length, drop, sym, ap, refl, arith, append_assoc, length-append, inl, inr, Result, Ok, Err, IfErr, IfNone, option_map, Appends-nil, drop_at, take_at, le-ltb, lt-ltb, HeaderFault, Bytes, CountsFaultIf, Gave, GaveAtMost, Known, Seen, flow, seen_by, move_of, HeaderParts, Refuses, HeaderVerdict, gave_more, gave_then, of_any, of_map, of_more, of_then, found_again, some_verdict, FileKey, Done, StreamFault, EndsAt, OpenerState, Starts, StartsReader, WritesAll, WritesReading, pieces, Reading, payload_reading, stop, chunk_size, sealed_chunk_size, Fault, OutOfMemory, Bounds, Decrypts, DecryptsText, TookUpTo, TookThrough, is_read, Inspects, Answering, IsVerdict, finding, header_fault, reading_after, reading_under, stream_fault, header_key, Read, Write}
use Rattle.age_header.specs.declared.fault.HeaderFault.TheVariants as header
use Rattle.age_stream.specs.declared.fault.StreamFault.TheVariants as stream
use Rattle.age_stream.specs.Counts as counts

-- a key that was returned is the one that was found
pub found_key : {found : Result FileKey Fault} {k : FileKey}
    → (◌≡◌ {A = Result FileKey Fault} (Ok k) (Err OutOfMemory)) ⊎ (Ok k ≡ found) → found ≡ Ok k
found_key (inl is) = absurd (cc)
found_key (inr is) = sym is

-- the result for a payload, with its fault as a `Fault`
abbrev pub file_result : Result Done StreamFault → Result Done Fault
file_result (Ok done) = Ok done
file_result (Err fault) = Err (stream_fault fault)

-- every text has a verdict
pub file_has_verdict : (limits : Bounds) (answers : Answering) (b : Bytes)
    → (v : Reading Fault) × IsVerdict limits answers b v
file_has_verdict limits answers b =
    let h = some_verdict b limits.max_header in
    (reading_after limits answers b h.0, record { header = h.0; header_verdict = h.1; is = refl })

-- if the verdict is a fault before any plaintext, decrypting may return it and write nothing
stops_decrypts : {limits : Bounds} {answers : Answering} {b : Bytes} (old : Known) (fault : Fault)
    → IsVerdict limits answers b (stop fault) → DecryptsText limits answers b (move_of old old) (Err fault)
stops_decrypts old Read v = (stop Read, v, (0, Appends-nil old))
stops_decrypts old Write v = (stop Write, v, (0, Appends-nil old))
stops_decrypts old OutOfMemory v = tt
stops_decrypts old fault v = (stop fault, v, refl, Appends-nil old)

header_text : (limits : Bounds) (answers : Answering) (b : Bytes) (old : Known) (g : HeaderFault)
    → Refuses b limits.max_header g → DecryptsText limits answers b (move_of old old) (Err (header_fault g))
header_text limits answers b old header.Read h =
    let v = file_has_verdict limits answers b in (v.0, v.1, (0, Appends-nil old))
header_text limits answers b old header.Memory h = tt
header_text limits answers b old g h =
    stops_decrypts old (header_fault g) (record { header = Err g; header_verdict = h; is = refl })

pub inspect_decrypts : (limits : Bounds) (answers : Answering) {come mid : Seen} (old : Known) {fault : Fault}
    → Inspects limits (flow come mid) (Err fault)
    → Decrypts limits answers (flow come mid) (move_of old old) (Err fault)
inspect_decrypts limits answers old (g, is, h) =
    rw is (of_map h (λ b refuses. header_text limits answers b old g refuses))

-- the header that was read, whatever follows it
pub record IsHeaded (limits : Bounds) (come mid : Seen) (h : HeaderParts) : Type 0 where
  pub text : Bytes
  pub took : Gave (flow come mid) text
  pub verdict : (rest : Bytes) → HeaderVerdict (text ++ rest) limits.max_header (Ok (finding text h))

pub headed : (limits : Bounds) {come mid : Seen} {h : HeaderParts} → Inspects limits (flow come mid) (Ok h)
    → IsHeaded limits come mid h
headed limits {h = h} (text, took, found) =
    record { text = text; took = took; verdict = found_again text limits.max_header (finding text h) found }

module _ {limits : Bounds} (answers : Answering) {come mid : Seen} {h : HeaderParts}
    (i : IsHeaded limits come mid h) where
  -- the verdict on the header and what follows it
  abbrev is_under : (rest : Bytes) {key : Result FileKey Fault} → header_key answers h ≡ key
      → IsVerdict limits answers (i.text ++ rest) (reading_under limits rest key)
  is_under rest key = record {
    header = Ok (finding i.text h);
    header_verdict = i.verdict rest;
    is = rw (drop_at i.text rest (length i.text) refl) (ap (reading_under limits rest) (sym key));
  }

  -- a fault of unlocking the header is a result of decrypting, and nothing is written
  pub locked_decrypts : (old : Known) {fault : Fault}
      → (◌≡◌ {A = Result FileKey Fault} (Err fault) (Err OutOfMemory)) ⊎ (Err fault ≡ header_key answers h)
      → Decrypts limits answers (flow come mid) (move_of old old) (Err fault)
  locked_decrypts old {fault} (inl memory) =
      let e : fault ≡ OutOfMemory = cc in rw e (of_more i.took (λ d end. tt))
  locked_decrypts old {fault} (inr key) =
      of_more i.took (λ d end. stops_decrypts old fault (is_under d (sym key)))

  -- the result for a payload under its key
  payload_text : (c : Bytes) {k : FileKey} (a b : Known) (r : Result Done StreamFault) → header_key answers h ≡ Ok k
      → WritesReading (payload_reading k limits.max_chunks c) (length (pieces (drop 16 c))) (move_of a b) r
      → DecryptsText limits answers (i.text ++ c) (move_of a b) (file_result r)
  payload_text c a b (Ok done) key x = (
    _,
    is_under c key,
    (ap (option_map stream_fault) x.0, x.2, rw (drop_at i.text c (length i.text) refl) x.3),
    x.1,
  )
  payload_text c a b (Err stream.Read) key x = (_, is_under c key, x)
  payload_text c a b (Err stream.Write) key x = (_, is_under c key, x)
  payload_text c a b (Err stream.Memory) key x = tt
  payload_text c a b (Err fault) key x = (_, is_under c key, ap (option_map stream_fault) x.0, x.1)

  -- once the nonce was read, the result for the pieces is the result of decrypting
  pub written_decrypts : (r : Result Done StreamFault) {at : Seen} (to : Seen) {s : OpenerState} (a b : Known)
      {k : FileKey} → header_key answers h ≡ Ok k → Starts k limits.max_chunks (flow mid at) (Ok s)
      → IfNone s.fault (WritesAll s (flow at to) (move_of a b) r)
      → Decrypts limits answers (flow come to) (move_of a b) (file_result r)
  written_decrypts r to a b key (nonce, len, is, gave) all =
      of_then i.took (of_then gave (rw is at all) (λ c w.
      let long : 16 ≤ length (nonce ++ c) = omega (arith, length-append nonce c) in
      rw (le-ltb (length (nonce ++ c)) 16 long, take_at nonce c 16 len, drop_at nonce c 16 len) w))
      (λ c w. payload_text c a b r key w)

  -- the fault of a nonce that is cut short or was not read is a result of decrypting
  pub unread_decrypts : (fault : StreamFault) (to : Seen) (old : Known) {k : FileKey}
      → header_key answers h ≡ Ok k → Starts k limits.max_chunks (flow mid to) (Err fault)
      → Decrypts limits answers (flow come to) (move_of old old) (Err (stream_fault fault))
  unread_decrypts stream.Read to old {k = k} key some = of_then i.took (of_any some (λ c. (0, Appends-nil old)))
      (λ c w. payload_text c {k = k} old old (Err stream.Read) key w)
  unread_decrypts stream.NonceTruncated to old {k = k} key (is, short) =
      of_then i.took short (λ c less. payload_text c {k = k} old old (Err stream.NonceTruncated) key
      (rw (lt-ltb (length c) 16 less) (refl, Appends-nil old)))
  unread_decrypts fault to old key h = absurd (cc)

-- how much was read
module _ {limits : Bounds} {come mid : Seen} {h : HeaderParts} (i : IsHeaded limits come mid h) where
  took_piece : (n : ℕ) {to : Seen} {a b : Known} {fault : StreamFault}
      (e : EndsAt limits.max_chunks 16 (flow mid to) (move_of a b) fault) → e.piece ≤ n
      → TookThrough limits n (flow come to)
  took_piece n {to} e le =
      let all = gave_more come mid to (length i.text) (16 + (sealed_chunk_size * (e.piece + 1) + 1))
      (i.text, i.took, omega arith) e.gave in record {
        found = finding i.text h;
        header = of_more (gave_then i.took e.gave.1) (λ d end. rw append_assoc (i.verdict (e.gave.0 ++ d)));
        gave = (all.0, all.1, omega (arith, all.2));
      }

  pub piece_takes : (fault : StreamFault) {to : Seen} {a b : Known}
      → EndsAt limits.max_chunks 16 (flow mid to) (move_of a b) fault
      → TookUpTo limits (flow come to) (move_of a b) (stream_fault fault)
  piece_takes stream.Write e = (e.text, e.written, took_piece (length e.text / chunk_size) e (grind (arith, e.at)))
  piece_takes (stream.ChunkShort j) e = took_piece j e (grind (arith, e.at))
  piece_takes (stream.EmptyFinal j) e = took_piece j e (grind (arith, e.at))
  piece_takes (stream.BadChunk j) e = took_piece j e (grind (arith, e.at))
  piece_takes stream.TooManyChunks e = took_piece limits.max_chunks e (grind (arith, e.at))
  piece_takes fault e = tt

pub payload_takes : {limits : Bounds} {come : Seen} (mid : Seen) {to : Seen} {a b : Known} {h : HeaderParts}
    (fault : StreamFault) → Inspects limits (flow come mid) (Ok h)
    → (fault ≡ stream.Read) ⊎ EndsAt limits.max_chunks 16 (flow mid to) (move_of a b) fault
    → TookUpTo limits (flow come to) (move_of a b) (stream_fault fault)
payload_takes mid fault i (inl e) = rw e tt
payload_takes {limits} mid fault i (inr e) = piece_takes {limits = limits} (headed limits i) fault e

-- a fault at the nonce, or `Memory`, is a result of decrypting
pub missed_decrypts : {S : Type 0} (to_come : S → Known) (gave : S → Bytes → Type 0) (failed : S → ℕ) {limits : Bounds}
    (answers : Answering) {come : Seen} {mid to : S} (old : Known) {h : HeaderParts} {k : FileKey} (fault : StreamFault)
    → IsHeaded limits come (seen_by to_come gave mid) h → header_key answers h ≡ Ok k
    → StartsReader to_come gave failed k limits.max_chunks mid to (Err fault)
    → Decrypts limits answers (flow come (seen_by to_come gave to)) (move_of old old) (Err (stream_fault fault))
missed_decrypts to_come gave failed answers old fault i key (inl (memory, same)) = grind (arith, of_more)
missed_decrypts to_come gave failed answers {to = to} old fault i key (inr m) =
    unread_decrypts answers i fault (seen_by to_come gave to) old key m.0

-- how much was read, the nonce included
pub payload_ends : (k : FileKey) {max : ℕ} {s : OpenerState} {from mid to : Seen} {a b : Known} {fault : StreamFault}
    → Starts k max (flow from mid) (Ok s) → GaveAtMost 16 (flow from mid)
    → IfNone s.fault
    (IfErr {T = Done} (Err fault) (λ f. (f ≡ stream.Read) ⊎ EndsAt s.max_chunks 0 (flow mid to) (move_of a b) f))
    → (fault ≡ stream.Read) ⊎ EndsAt max 16 (flow from to) (move_of a b) fault
payload_ends k {max} {from} {mid} {to} {a} {b} {fault} starts nonce h = elim (rw starts.2 at h) [
  | inl e ↦ inl e
  | inr e ↦
      let all = gave_more from mid to 16 (0 + (sealed_chunk_size * (e.piece + 1) + 1)) nonce e.gave in inr (record {
        piece = e.piece;
        text = e.text;
        written = e.written;
        at = e.at;
        gave = (all.0, all.1, omega (arith, all.2));
      })
]

pub reads_file : (old : ℕ) {new : ℕ} (fault : StreamFault) → CountsFaultIf counts.is_read old new fault
    → CountsFaultIf is_read old new (stream_fault fault)
reads_file old stream.Read h = h
reads_file old fault h = h

-- equal errors have equal faults
pub err_err : {A : Type 0} (f g : Fault) → ◌≡◌ {A = Result A Fault} (Err f) (Err g) → f ≡ g
err_err f g e = cc
