-- What a call of `encrypt` returns, reads and writes.
use Rattle.age_file.proofs.Common.{Bool, true, false, ◌≡◌, ℕ, ◌+◌, ◌-◌, ◌*◌, ◌≤◌, List, [], ◌++◌, length, take, ap, refl, arith, None, Result, Ok, Err, append_assoc, length-append, concat, Appends, Appends-nil, Appends-trans, Bytes, GaveAtMost, GaveSome, Moved, WritesPart, Known, Seen, Flow, flow, move_by, move_of, StanzaParts, Head, header_mac, of_any, of_map, of_then, one_text, FileKey, Done, StreamFault, payload, payload_key, sealed_chunks, Fills, FinishesBy, SealerState, SealsAll, Stopped, at_start, chunk_size, filled_finishes, filled_seals, Fault, TooManyChunks, Read, Write, Fresh, Bounds, BegunFile, EncryptsGiven, FailsHeading, Gathering, IsHeading, IsNewHeader, FillsChunk, TookWhileEncrypting, TookChunks, IfNone, inl, inr, stream_fault}
use Rattle.age_stream.specs.declared.fault.StreamFault.TheVariants as stream
use Rattle.age_stream.specs.Salvage.{IsOfPieces}
use Rattle.age_file.proofs.CopiesLemmas.{part_after, part_more}
use Rattle.age_file.proofs.DecryptLemmas.{file_result}

-- the text of the header that was made is the text of a new header
pub new_header : {limits : Bounds} {k : FileKey} {gathered : Gathering} {stanzas : List StanzaParts} {mac text : Bytes}
    → (mac ≡ header_mac k.0 stanzas) × ((made : Bytes) × IsHeading limits k gathered stanzas made)
    → Head stanzas mac text → IsNewHeader limits k gathered text
new_header {k} {stanzas} {text} (is, (made, heading)) head = grind (arith, one_text stanzas (header_mac k.0 stanzas) made text heading.head (rw is at head))

-- a fault other than a device's and too many chunks
abbrev pub IsEarly : Fault → Type 0
IsEarly Read = ⊥
IsEarly Write = ⊥
IsEarly TooManyChunks = ⊥
IsEarly fault = Unit {0}

pub early_heading : (limits : Bounds) (k : FileKey) (gathered : Gathering) (fault : Fault)
    → FailsHeading limits k gathered fault → IsEarly fault
early_heading a b c d e = grind arith

-- a sealer that was just made was filled
pub filled : {s t : SealerState} {key : Bytes} {m max : ℕ} {more : Bool} {source : Flow} → s ≡ at_start key m
    → m ≡ max → IfNone s.fault (Fills s t source (Ok more)) → Fills (at_start key max) t source (Ok more)
filled is same h = rw same at (rw is at h)

-- a sealer that was filled keeps no fault
kept_none : {key : Bytes} {max : ℕ} (t : SealerState) (more : Bool) (source : Flow)
    → Fills (at_start key max) t source (Ok more) → t.fault ≡ None
kept_none t more source (x, gave, is, fits, full, ended) = ap (λ (u : SealerState). u.fault) is

-- after a first `fill` reached the end of the source, `finish` seals the whole source, or fails
pub sealed_ended : {key : Bytes} {max : ℕ} {t : SealerState} {from mid : Seen} (a c : Known)
    (r : Result Done StreamFault) → 1 ≤ max → Fills (at_start key max) t (flow from mid) (Ok false)
    → IfNone t.fault (FinishesBy t (move_of a c) r)
    → SealsAll (at_start key max) (flow from mid) (move_of a c) r
sealed_ended {key} {max} {t} {from} {mid} a c r low fills h = filled_finishes key max t from mid a c r low fills
    (rw (kept_none {key = key} {max = max} t false (flow from mid) fills) at h)

-- after a first full chunk, sealing it and the text to come seals the whole source, or fails
pub sealed_on : {W : Type 0} (taken : W → Known) {key : Bytes} {max : ℕ} {s t : SealerState} {from mid : Seen}
    (to : Seen) (o old new last : W) (r : Result Done StreamFault) → new ≡ last → o ≡ old → s ≡ t
    → Fills (at_start key max) t (flow from mid) (Ok true)
    → IfNone s.fault (SealsAll s (flow mid to) (move_by taken o new) r)
    → SealsAll (at_start key max) (flow from to) (move_by taken old last) r
sealed_on taken {key} {max} {s} {t} {from} {mid} to o old new last r ends begins is fills h =
    rw ends at (filled_seals key max t true from mid to (taken old) (taken new) r fills
    (rw (kept_none {key = key} {max = max} t true (flow from mid) fills) at (rw (begins, is) at h)))

-- a fault of sealing is a failed read, a failed write or too many chunks
pub stopped_faults : {key : Bytes} {max i j : ℕ} {held : Bytes} {source : Flow} {sink : Moved} {fault : StreamFault}
    → Stopped key max i j held source sink fault → IsOfPieces fault
stopped_faults {fault = stream.Read} s = tt
stopped_faults {fault = stream.Write} s = tt
stopped_faults {fault = stream.TooManyChunks} s = tt
stopped_faults {fault = fault} s = absurd (s.stops.holds [] (λ end. refl))

-- if reading the first chunk failed, `Read` with nothing written is a result of encrypting
pub encrypts_unread : {limits : Bounds} (fresh : Fresh) {gathered : Gathering} {text : Bytes}
    → IsNewHeader limits fresh.file_key gathered text → {source : Flow} (old : Known) → GaveSome source
    → EncryptsGiven limits fresh gathered source (move_of old old) (Err Read)
encrypts_unread fresh {text = text} header old some =
    of_any some (λ plain. record { text = text; header = header; part = (0, Appends-nil old) })

module _ {limits : Bounds} (fresh : Fresh) {gathered : Gathering} {text front : Bytes}
    (header : IsNewHeader limits fresh.file_key gathered text) (spelled : front ≡ text ++ fresh.nonce) where
  -- if a write fails within the header and the nonce, `Write` is a result of encrypting
  pub encrypts_begun : {source : Flow} (sink : Moved) → GaveSome source → WritesPart sink front
      → EncryptsGiven limits fresh gathered source sink (Err Write)
  encrypts_begun sink some part = of_any some (λ plain. record {
    text = text;
    header = header;
    part = rw append_assoc at (part_more sink (text ++ fresh.nonce)
        (concat (sealed_chunks fresh.file_key fresh.nonce plain)) (rw spelled at part));
  })

  pub takes_begun : {key : Bytes} {max : ℕ} {t : SealerState} {more : Bool} {source : Flow} (sink : Moved)
      → WritesPart sink front → Fills (at_start key max) t source (Ok more)
      → TookWhileEncrypting limits fresh gathered source sink Write
  takes_begun sink part (x, gave, is, fits, full, ended) = record {
    text = text;
    header = header;
    written = take part.0 front;
    gained = part.1;
    n = 0;
    whole = omega arith;
    gave = (x, gave, omega (arith, rw is at fits));
  }

  -- header, nonce and then a prefix of the sealed chunks are a prefix of the file
  begun : {plain : Bytes} (a b c : Known) → Appends a b front
      → WritesPart (move_of b c) (concat (sealed_chunks fresh.file_key fresh.nonce plain))
      → BegunFile limits fresh gathered plain (move_of a c)
  begun {plain} a b c put part = record {
    text = text;
    header = header;
    part = rw append_assoc at (part_after a b c (text ++ fresh.nonce)
        (concat (sealed_chunks fresh.file_key fresh.nonce plain)) (rw spelled at put) part);
  }

  -- once header and nonce were written, the result of sealing is a result of encrypting
  pub encrypts_payload : (r : Result Done StreamFault) {source : Flow} (a b c : Known) → length fresh.nonce ≡ 16
      → Appends a b front
      → SealsAll (at_start (payload_key fresh.file_key fresh.nonce) limits.max_chunks) source (move_of b c) r
      → EncryptsGiven limits fresh gathered source (move_of a c) (file_result r)
  encrypts_payload (Ok done) a b c sixteen put h = of_map h (λ plain q.
      let rest : Bytes = concat (sealed_chunks fresh.file_key fresh.nonce plain) in (
        text ++ payload fresh.file_key fresh.nonce plain,
        record {
          text = text;
          header = header;
          spelled = refl;
          file = record {
            header = text;
            nonce = fresh.nonce;
            head = header.heading.head;
            nonce_len = sixteen;
            spelled = refl;
            header_fits = header.heading.fits;
            chunks_fit = omega (arith, q.1);
            unmixed = header.heading.unmixed;
          };
        },
        rw append_assoc at (Appends-trans a b c (text ++ fresh.nonce) rest (rw spelled at put) q.0),
        omega (arith, q.2),
        omega (arith, q.3),
      ))
  encrypts_payload (Err stream.Read) a b c sixteen put s = of_map s.1.stops (λ plain q. begun a b c put q)
  encrypts_payload (Err stream.Write) a b c sixteen put s = of_map s.1.stops (λ plain q. begun a b c put q)
  encrypts_payload (Err stream.TooManyChunks) a b c sixteen put s = of_map s.1.stops (λ plain q.
      let below : limits.max_chunks - 1 - 0 ≡ limits.max_chunks - 1 = omega arith in
      let out : Bytes = concat (take (limits.max_chunks - 1) (sealed_chunks fresh.file_key fresh.nonce plain)) in (
        text ++ (fresh.nonce ++ out),
        record { text = text; header = header; too_many = omega (arith, q.0); spelled = refl },
        rw append_assoc at (Appends-trans a b c (text ++ fresh.nonce) out (rw spelled at put) (rw below at q.1)),
      ))
  encrypts_payload (Err fault) a b c sixteen put s = absurd (stopped_faults s.1)

  took : {source : Flow} (a b c : Known) {fault : StreamFault} → length fresh.nonce ≡ 16
      → Appends a b front → (chunk : ℕ)
      → Stopped (payload_key fresh.file_key fresh.nonce) limits.max_chunks 0 chunk [] source (move_of b c) fault
      → GaveAtMost (chunk_size * (chunk + 1 - 0) + 1 - 0) source
      → TookChunks limits fresh gathered source (move_of a c)
  took a b c sixteen put chunk s gave = record {
    text = text;
    header = header;
    written = (text ++ fresh.nonce) ++ s.wrote.0;
    gained = Appends-trans a b c (text ++ fresh.nonce) s.wrote.0 (rw spelled at put) s.wrote.1;
    n = chunk;
    whole = omega (arith, length-append {A = ℕ}, sixteen, s.wrote.2);
    gave = (gave.0, gave.1, omega (arith, gave.2));
  }

  pub takes_payload : (fault : StreamFault) {source : Flow} (a b c : Known) → length fresh.nonce ≡ 16
      → Appends a b front
      → SealsAll (at_start (payload_key fresh.file_key fresh.nonce) limits.max_chunks) source (move_of b c) (Err fault)
      → TookWhileEncrypting limits fresh gathered source (move_of a c) (stream_fault fault)
  takes_payload stream.Read a b c sixteen put s = tt
  takes_payload stream.Write a b c sixteen put (chunk, s) =
      elim s.gave [ inl e ↦ absurd (cc) | inr gave ↦ took a b c sixteen put chunk s gave ]
  takes_payload stream.TooManyChunks a b c sixteen put (chunk, s) =
      elim s.gave [ inl e ↦ absurd (cc) | inr gave ↦ took a b c sixteen put chunk s gave ]
  takes_payload fault a b c sixteen put s = absurd (stopped_faults s.1)

-- a fault of sealing once the first chunk is full is one of `IsOfPieces`
pub late_faults : {key : Bytes} {max : ℕ} {s t : SealerState} {from mid : Seen} (to : Seen) (a c : Known)
    (fault : StreamFault) → s ≡ t → Fills (at_start key max) t (flow from mid) (Ok true)
    → IfNone s.fault (SealsAll s (flow mid to) (move_of a c) (Err fault)) → IsOfPieces fault
late_faults {key} {max} {t = t} {from} {mid} to a c fault same fills h =
    stopped_faults (rw (kept_none {key = key} {max = max} t true (flow from mid) fills) at (rw same at h)).1

-- on any fault of sealing once the first chunk is full, the source returned a whole chunk
pub read_late : {key : Bytes} {max : ℕ} {s t : SealerState} {from mid : Seen} (to : Seen) (a c : Known)
    (fault : StreamFault) → s ≡ t → Fills (at_start key max) t (flow from mid) (Ok true)
    → IfNone s.fault (SealsAll s (flow mid to) (move_of a c) (Err fault)) → FillsChunk (flow from to)
read_late {key} {max} {s} {t} {from} {mid} to a c fault same fills h =
    let (x, took, is, fits, full, ended) = fills in
    let (chunk, seals) = rw (kept_none {key = key} {max = max} t true (flow from mid) fills) at (rw same at h) in
    let l : length x ≡ chunk_size = rw is at (full refl) in
    of_then took seals.stops (λ text h. omega (arith, length-append x text, l))
