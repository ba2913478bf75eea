-- Opening the sealed chunks of a payload into a buffer.
use Rattle.agefile.proofs.Common.{◌≡◌, ◌⊎◌, ℕ, ◌+◌, ◌-◌, ◌*◌, ◌<◌, ◌≤◌, [], ◌++◌, length, take, drop, min, nat_le, sym, ◌∙◌, ap, refl, arith, inl, inr, append_assoc, length-append, length-drop, Option, Some, None, Result, Ok, Err, option_map, le-leb, lt-leb, append-nil, drop-drop, length-take-le, take-append-drop, take_all, drop-append_seam, take-append_seam, Bytes, StreamFault, Reading, first_outcome, outcome, reading_from, chunk_size, sealed_chunk_size, Fault, Answering, IsVerdict, reading_after, stream_fault, Report, Start, code_of, Decrypts, GivesFirst, GivesReading, Exceeds, Fits, limits, opened_len, report_of, FindsStart}
use Rattle.age_stream.specs.Opening.{GivesText}
use Rattle.age_stream.proofs.WritesAllLemmas.{before, first_err, first_ok}
use Rattle.agefile.proofs.SizeLemmas.{first_cut}
use Rattle.agefile.proofs.VerdictLemmas.{IsVerdictFrom, verdict_from}

-- ---- one chunk

-- the outcome of the first piece, taken by its own length
pub first_is : (key : Bytes) (i size : ℕ) (left piece : Bytes) → size ≡ min (length left) sealed_chunk_size
    → piece ≡ take size left
    → outcome key limits.max_chunks i (nat_le (length left) sealed_chunk_size) (take size piece)
    ≡ first_outcome key limits.max_chunks i left
first_is key i size left piece sized is =
    let whole = take_all size (take size left) (omega (arith, length-take-le size left (omega arith))) in
    rw (is, whole, first_cut sealed_chunk_size size left sized) refl

pub first_given : {o p : Result Bytes StreamFault} (n : ℕ) (after text old : Bytes) {new : Bytes} → p ≡ o
    → GivesText p after (Ok n) → text ≡ take n after → new ≡ text ++ drop n old → GivesFirst o old new (Ok n)
first_given n after text old same h is put =
    rw (← same, h.0, length-take-le n after h.1) (refl, rw is at put)

pub first_fault : {o p : Result Bytes StreamFault} (fault : StreamFault) (after old : Bytes) → p ≡ o
    → GivesText p after (Err fault) → GivesFirst o old old (Err fault)
first_fault fault after old same h = rw (← same, h) (refl, refl)

-- ---- one chunk after another

-- this many chunks were opened, and their texts are at the start of the buffer
pub record IsReadTo (key sealed old out : Bytes) (at len number : ℕ) : Type 0 where
  pub text : Bytes
  pub place : at ≡ sealed_chunk_size * number
  pub size : len ≡ chunk_size * number
  pub count : length text ≡ len
  pub some : (number ≡ 0) ⊎ (at < length sealed)
  pub room : opened_len (length sealed) ≤ length old
  pub is : out ≡ text ++ drop (length text) old
  pub reads : reading_from key limits.max_chunks 0 sealed
      ≡ before text (reading_from key limits.max_chunks number (drop at sealed))

-- if the first chunk opened, its text is at the start of the buffer
opened : (o : Result Bytes StreamFault) (n : ℕ) (old new : Bytes) → GivesFirst o old new (Ok n)
    → (text : Bytes) × (o ≡ Ok text) × (n ≡ length text) × (new ≡ text ++ drop (length text) old)
opened (Ok text) n old new (len, put) = (text, refl, cc (len), put)
opened (Err fault) n old new h = absurd (cc (h.0))

faulty : (o : Result Bytes StreamFault) (fault : StreamFault) (old new : Bytes) → GivesFirst o old new (Err fault)
    → (o ≡ Err fault) × (new ≡ old)
faulty (Ok text) fault old new h = absurd (cc (h.0))
faulty (Err f) fault old new (is, same) = let one : f ≡ fault = cc (is) in (ap Err one, same)

-- the result for a reading, if the buffer begins with its plaintext
given : {reading : Reading StreamFault} {old new : Bytes} {len : ℕ} (text : Bytes) (fault : Option StreamFault)
    → reading ≡ record { plaintext = text ++ []; fault = fault } → len ≡ length text
    → new ≡ text ++ drop (length text) old → GivesReading reading old new len fault
given text fault is size put =
    rw (is, append-nil) (record { length_so = size; fault_so = refl; buffer = put })

-- at a chunk's fault, the buffer begins with the texts before it, and the fault is returned
pub read_stops : {key sealed old left room front : Bytes} (out : Bytes) (at len number : ℕ) (fault : StreamFault)
    (mid : Bytes) → IsReadTo key sealed old out at len number
    → left ≡ drop at sealed → room ≡ drop len out → front ≡ take len out
    → GivesFirst (first_outcome key limits.max_chunks number left) room mid (Err fault)
    → GivesReading (reading_from key limits.max_chunks 0 sealed) old (front ++ mid) len (Some fault)
read_stops {key} {left} {room} out at len number fault mid r left_is room_is front_is gives =
    let (is, same) = faulty (first_outcome key limits.max_chunks number left) fault room mid gives in
    given r.text (Some fault)
    (rw (← left_is) at r.reads ∙ ap (before r.text) (first_err key limits.max_chunks number left fault is))
    (sym r.count)
    (rw (front_is, same ∙ room_is, take-append-drop) r.is)

-- a chunk opened: the buffer after it
put : (old out mid start text : Bytes) {front room : Bytes} (len : ℕ) → length start ≡ len
    → out ≡ start ++ drop (length start) old → mid ≡ text ++ drop (length text) room → room ≡ drop len out
    → front ≡ take len out → front ++ mid ≡ (start ++ text) ++ drop (length (start ++ text)) old
put old out mid start text len size was is room_is front_is = rw
    (front_is, is, room_is, ← size, was, take-append_seam, drop-append_seam, drop-drop, length-append, append_assoc) refl

-- once the last chunk opened, the buffer begins with the whole plaintext, and there is no fault
pub read_ends : {key sealed old left room front : Bytes} (out : Bytes) (at len number n : ℕ) (mid : Bytes)
    → IsReadTo key sealed old out at len number → left ≡ drop at sealed → room ≡ drop len out → front ≡ take len out
    → GivesFirst (first_outcome key limits.max_chunks number left) room mid (Ok n) → length left ≤ sealed_chunk_size
    → GivesReading (reading_from key limits.max_chunks 0 sealed) old (front ++ mid) (len + n) None
read_ends {key} {sealed} {old} {left} {room} out at len number n mid r left_is room_is front_is gives last =
    let (text, is, count, gave) = opened (first_outcome key limits.max_chunks number left) n room mid gives in
    let f = first_ok key limits.max_chunks number left text None is
    (rw (le-leb (length left) sealed_chunk_size last) refl) in
    given (r.text ++ text) None
    (rw (← append_assoc r.text text []) at (rw (← left_is) at r.reads ∙ ap (before r.text) f.reads))
    (omega (arith, count, r.count, length-append r.text text))
    (put old out mid r.text text len r.count r.is gave room_is front_is)

-- after a chunk that is not the last, `IsReadTo` holds for one chunk more
pub read_more : {key sealed old left room front : Bytes} (out : Bytes) (at len number n : ℕ) (mid : Bytes)
    → IsReadTo key sealed old out at len number → left ≡ drop at sealed → room ≡ drop len out → front ≡ take len out
    → GivesFirst (first_outcome key limits.max_chunks number left) room mid (Ok n)
    → sealed_chunk_size < length left → n ≡ min (length left) sealed_chunk_size - 16
    → IsReadTo key sealed old (front ++ mid) (at + sealed_chunk_size) (len + n) (number + 1)
read_more {key} {sealed} {old} {left} {room} out at len number n mid r left_is room_is front_is gives more size =
    let (text, is, count, gave) = opened (first_outcome key limits.max_chunks number left) n room mid gives in
    let f = first_ok key limits.max_chunks number left text (Some (drop sealed_chunk_size left)) is
    (rw (lt-leb (length left) sealed_chunk_size more) refl) in
    let rest : reading_from key limits.max_chunks 0 sealed
    ≡ before (r.text ++ text) (reading_from key limits.max_chunks (number + 1) (drop sealed_chunk_size left)) =
    rw (append_assoc r.text text) (rw (← left_is) at r.reads ∙ ap (before r.text) f.reads) in
    record {
      text = r.text ++ text;
      place = omega (arith, r.place);
      size = omega (arith, r.size, size, more);
      count = omega (arith, count, r.count, length-append r.text text);
      some = inr (omega (arith, more, ap length left_is, length-drop at sealed));
      room = r.room;
      is = put old out mid r.text text len r.count r.is gave room_is front_is;
      reads = rest ∙ ap (λ c. before (r.text ++ text) (reading_from key limits.max_chunks (number + 1) c))
          (ap (drop sealed_chunk_size) left_is ∙ drop-drop sealed_chunk_size at sealed);
    }

-- ---- the whole file

-- if the buffer has the chunks' texts, the call returns the verdict's plaintext and any fault
reading_fits : {reading : Reading StreamFault} (v : Reading Fault) (old new : Bytes) (report : Report) (code len : ℕ)
    (fault : Option StreamFault)
    → v ≡ record { plaintext = reading.plaintext; fault = option_map stream_fault reading.fault }
    → GivesReading reading old new len fault → length new ≡ length old
    → report ≡ report_of len (option_map stream_fault fault) → code ≡ code_of (option_map stream_fault fault)
    → Fits v.plaintext v.fault old new report code
reading_fits {reading} v old new report code len fault is gives size reported returned = grind (arith, length-append, length-drop)

pub decrypts_opened : (answers : Answering) {b : Bytes} (old new : Bytes) {report : Report} {code : ℕ} (len : ℕ)
    (start : Start) (fault : Option StreamFault) → FindsStart answers b (Ok start)
    → opened_len (length (drop start.first b)) ≤ length old
    → GivesReading (reading_from start.key limits.max_chunks 0 (drop start.first b)) old new len fault
    → length new ≡ length old → report ≡ report_of len (option_map stream_fault fault)
    → code ≡ code_of (option_map stream_fault fault)
    → Decrypts answers b old new report code
decrypts_opened answers old new len start fault (inl memory) room gives size reported returned = absurd (cc)
decrypts_opened answers {b} old new {report} {code} len start fault (inr (header, verdict, is)) room gives size
    reported returned =
    let v : Reading Fault = reading_after limits answers b header in
    let judged_so : IsVerdict limits answers b v = record { header = header; header_verdict = verdict; is = refl } in
    let from : IsVerdictFrom b v (Ok start) = verdict_from answers b (Ok start) v (header, verdict, is) judged_so in
    let fits = reading_fits v old new report code len fault from gives size reported returned in
    inr (Ok start, (header, verdict, is), inr (rw length-drop at room, (v, judged_so, fits)))

pub no_room : (answers : Answering) {b : Bytes} {old : Bytes} {report : Report} (room : ℕ) (start : Start)
    → FindsStart answers b (Ok start) → room ≡ opened_len (length (drop start.first b)) → report ≡ report_of room None
    → length old < room → Decrypts answers b old old report 21
no_room answers room start (inl memory) is reported more = absurd (cc)
no_room answers {b} {old} {report} room start (inr at) is reported more =
    let exceeds : Exceeds room old old report 21 =
    record { exceeds = more; returned = refl; reported = reported; buffer = refl } in
    inr (Ok start, at, inl (rw (is, length-drop start.first b) at exceeds))
