-- Full chunks that are written one after another.
use Rattle.age_stream.proofs.Common.{common_steps, ◌≡◌, ◌⊎◌, ◌∙◌, ◌++◌, ◌+◌, ◌-◌, ◌*◌, ◌<◌, ◌≤◌, ℕ, List, [], ◌∷◌, length, take, drop, ap, sym, arith, append-nil, append_assoc, length-append, refl, Bool, Option, Some, None, Result, Ok, Err, false, inl, inr, zero, suc, slice_set, slice_index_or, concat, Appends, IsAtEnd, Appends-trans, Appends-nil, take-add, length-take-le, take_at, length-drop, Bytes, sealed_text, Flow, Gave, GaveAtMost, GaveSome, Known, Seen, WritesPart, flow, move_of, Done as StreamDone, StreamFault, Read, Write, TooManyChunks, chunk_size, sealed_chunk_size, chunk_buf_size, length-sealed_text, Filled, gave_then, of_any, of_ended, of_more, of_then, done_part, cut_after, chunk_nonce, IfNone, FinishesBy, Fills, SealerState, SealsAll, StopsIn, TakesAll, Fed, IsFed, Stopped, WroteAtLeast, at_start, sealed_chunks_after, concat-append, at_none, when_none, sealed_chunk}
use Rattle.age_header.proofs.DeviceLemmas.{Done}
use Rattle.age_stream.proofs.CuttingLemmas.{cut_first, cut_fits}
use Rattle.age_stream.proofs.PayloadLemmas.{length_each}
use Rattle.age_stream.proofs.ReadingLemmas.{is_end_cut, cut_some}

-- text that is held is cut like text that is read
cut_held : (x more : Bytes) → length x ≤ chunk_size → cut_after chunk_size [] (x ++ more) ≡ cut_after chunk_size x more
cut_held x more fits = cut_fits chunk_size [] x more (omega (arith, fits))

pub fed_none : {key : Bytes} {i : ℕ} {held : Bytes} {a : Known} → Fed key i i held [] held (move_of a a)
fed_none {a} = grind (arith, common_steps)

module _ {key : Bytes} {i j : ℕ} {held text now : Bytes} {a b : Known}
    (f : Fed key i j held text now (move_of a b)) where
  -- the chunks of the text read, if nothing follows: those written, and the last
  chunks_all : sealed_chunks_after key i held text ≡ f.gone ++ sealed_chunks_after key j now []
  chunks_all = rw (append-nil text) at (f.chunks [])

  -- what was written is a prefix of what is to be written
  done_fed : (more : Bytes) (rest : List Bytes) → sealed_chunks_after key i held more ≡ f.gone ++ rest
      → Done a b (concat (sealed_chunks_after key i held more)) (concat rest)
  done_fed more rest is = record {
    prefix = concat f.gone;
    took = f.written;
    is = ap concat is ∙ concat-append f.gone rest;
  }

  wrote_fed : (part : Bytes) (c : Known) → Appends b c part → WroteAtLeast (sealed_chunk_size * (j - i)) (move_of a c)
  wrote_fed part c put = (
    concat f.gone ++ part,
    Appends-trans a b c (concat f.gone) part f.written put,
    omega (arith, length-append (concat f.gone) part, f.size, f.count),
  )

  -- a read failed
  pub stopped_read : (max : ℕ) {from mid to : Seen} → Gave (flow from mid) text → GaveSome (flow mid to)
      → Stopped key max i j held (flow from to) (move_of a b) Read
  stopped_read max took lost = record {
    stops = of_then took (of_any lost (λ d. done_part b [] (concat (sealed_chunks_after key j now d))
        (done_fed (text ++ d) (sealed_chunks_after key j now d) (f.chunks d)) refl (0, Appends-nil b)))
        (λ d part. part);
    wrote = wrote_fed [] b (Appends-nil b);
    gave = inl refl;
  }

  -- what the source returned last, if it fits into the chunk, is held
  pub fed_end : (piece : Bytes) {from mid to : Seen} → length now + length piece ≤ chunk_size
      → Gave (flow from mid) text → Gave (flow mid to) piece
      → IsFed key i j held (now ++ piece) (flow from to) (move_of a b)
  fed_end piece fits took more = record {
    text = text ++ piece;
    took = gave_then took more;
    fed = record {
      gone = f.gone;
      count = f.count;
      size = f.size;
      bytes = omega (arith, f.bytes, length-append text piece, length-append now piece);
      written = f.written;
      chunks = λ d. rw (append_assoc text piece d, ← cut_fits chunk_size now piece d fits) (f.chunks (piece ++ d));
    };
  }

-- `now` and a piece are a full chunk and the byte that follows it
pub record IsFull (now piece full next : Bytes) : Type 0 where
  pub size : length full ≡ chunk_size
  pub one : length next ≡ 1
  pub all : now ++ piece ≡ full ++ next
  pub fits : length now ≤ chunk_size

module _ {key : Bytes} {i j : ℕ} {held text now piece full next : Bytes} {a b : Known}
    (f : Fed key i j held text now (move_of a b)) (h : IsFull now piece full next) where
  -- the chunks of the text read and of what may follow: those written, the full one, and the rest
  chunks_after : (more : Bytes) → sealed_chunks_after key i held ((text ++ piece) ++ more)
      ≡ f.gone ++ sealed_text key (chunk_nonce j false) [] full ∷ sealed_chunks_after key (j + 1) next more
  chunks_after more =
      let same : now ++ (piece ++ more) ≡ full ++ (next ++ more) = sym (append_assoc now piece more)
      ∙ ap (λ t. t ++ more) h.all ∙ append_assoc full next more in
      let some : 0 < length (next ++ more) = omega (arith, length-append next more, h.one) in
      rw (
        append_assoc text piece more,
        f.chunks (piece ++ more),
        ← cut_held now (piece ++ more) h.fits,
        same,
        cut_first chunk_size full (next ++ more) (omega arith) some h.size,
        is_end_cut chunk_size [] (next ++ more),
        cut_held next more (omega (arith, h.one)),
      )

  piece_has_len : length now + length piece ≡ chunk_size + 1
  piece_has_len =
      omega (arith, ap length h.all, length-append now piece, length-append full next, h.size, h.one)

  -- the chunk was written: k is the number of the next, and `prefix` is the byte held of it
  pub fed_next : {k : ℕ} {prefix : Bytes} {c : Known} → k ≡ j + 1 → prefix ≡ next
      → Appends b c (sealed_text key (chunk_nonce j false) [] full)
      → Fed key i k held (text ++ piece) prefix (move_of a c)
  fed_next {c} is same put =
      let chunk : Bytes = sealed_text key (chunk_nonce j false) [] full in
      let size : length chunk ≡ length full + 16 = length-sealed_text key (chunk_nonce j false) [] full in
      let joined : concat (f.gone ++ chunk ∷ []) ≡ concat f.gone ++ chunk =
      concat-append f.gone (chunk ∷ []) ∙ ap (λ t. concat f.gone ++ t) (append-nil chunk) in
      let count : length (f.gone ++ chunk ∷ []) ≡ length f.gone + 1 = length-append f.gone (chunk ∷ []) in
      rw (is, same) (record {
        gone = f.gone ++ chunk ∷ [];
        count = omega (arith, f.count);
        size = omega (arith, ap length joined, length-append (concat f.gone) chunk, f.size, h.size);
        bytes = omega (arith, f.bytes, length-append text piece, piece_has_len, h.one);
        written = rw joined (Appends-trans a b c (concat f.gone) chunk f.written put);
        chunks = λ more. rw (append_assoc f.gone (chunk ∷ []) (sealed_chunks_after key (j + 1) next more))
            (chunks_after more);
      })

  module _ {from mid to : Seen} (took : Gave (flow from mid) text) (more : Gave (flow mid to) piece) where
    gave_full : GaveAtMost (chunk_size * (j + 1 - i) + 1 - length held) (flow from to)
    gave_full = (
      text ++ piece,
      gave_then took more,
      omega (arith, length-append text piece, f.bytes, f.count, piece_has_len),
    )

    -- a write failed
    stopped_write : (max : ℕ) (c : Known) → WritesPart (move_of b c) (sealed_text key (chunk_nonce j false) [] full)
        → Stopped key max i j held (flow from to) (move_of a c) Write
    stopped_write max c part =
        let chunk : Bytes = sealed_text key (chunk_nonce j false) [] full in
        record {
          stops = of_more (gave_then took more) (λ d end.
              let rest : List Bytes = sealed_chunks_after key (j + 1) next d in
              done_part c chunk (concat rest) (done_fed f ((text ++ piece) ++ d) (chunk ∷ rest) (chunks_after d))
              refl part);
          wrote = wrote_fed f (take part.0 chunk) c part.1;
          gave = inr gave_full;
        }

    -- the limit allows no further chunk
    stopped_many : {max : ℕ} (c : Known) → j < max → max ≤ j + 1 → Appends b c []
        → Stopped key max i j held (flow from to) (move_of a c) TooManyChunks
    stopped_many {max} c within many none =
        let wrote = rw (append-nil (concat f.gone)) at (Appends-trans a b c (concat f.gone) [] f.written none) in
        record {
          stops = of_more (gave_then took more) (λ d end.
              let all : Bytes = (text ++ piece) ++ d in
              let is = chunks_after d in
              let last : List Bytes = sealed_text key (chunk_nonce j false) [] full ∷ sealed_chunks_after key
              (j + 1) next d in
              let count : length (cut_after chunk_size held all) ≡ length f.gone + length last =
              sym (length_each (sealed_chunk key) i (cut_after chunk_size held all)) ∙ ap length is
              ∙ length-append f.gone last in (
                omega (
                  arith,
                  f.count,
                  length_each (sealed_chunk key) (j + 1) (cut_after chunk_size next d),
                  cut_some chunk_size next d,
                ),
                rw (is, take_at f.gone last (max - 1 - i) (omega (arith, f.count))) wrote,
              ));
          wrote = wrote_fed f [] c none;
          gave = inr gave_full;
        }

    -- the full chunk was not written, or not all of it
    pub stopped_full : {max k : ℕ} {c : Known} {fault : StreamFault} → j < max
        → (k ≡ j) × (((fault ≡ Write) × WritesPart (move_of b c) (sealed_text key (chunk_nonce j false) [] full))
        ⊎ ((fault ≡ TooManyChunks) × (max ≤ j + 1) × Appends b c []))
        → Stopped key max i k held (flow from to) (move_of a c) fault
    stopped_full {max} {c} within (same, inl (is, part)) = rw (same, is) (stopped_write max c part)
    stopped_full {c} within (same, inr (is, many, none)) = rw (same, is) (stopped_many c within many none)

-- a buffer that was filled up to the byte after a full chunk
pub full_is : {held n : ℕ} {bytes filled : Bytes} {a b : Seen} → chunk_size < n → n ≤ chunk_size + 1 → held ≤ chunk_size
    → length bytes ≡ chunk_buf_size → length filled ≡ chunk_buf_size → (f : Filled held n bytes filled (flow a b))
    → IsFull (take held bytes) f.piece (take chunk_size filled) (take 1 (drop chunk_size filled))
full_is {held} {n} {bytes} {filled} low high le size full_size f =
    let is : n ≡ chunk_size + 1 = omega arith in
    record {
      size = length-take-le chunk_size filled (omega arith);
      one = length-take-le 1 (drop chunk_size filled) (omega (arith, length-drop chunk_size filled));
      all = sym f.is ∙ ap (λ k. take k filled) is ∙ take-add chunk_size 1 filled;
      fits = omega (arith, length-take-le held bytes (omega arith));
    }

pub first_set : (xs : Bytes) {v : ℕ} → 0 < length xs → take 1 (slice_set xs 0 v) ≡ v ∷ []
first_set [] some = absurd (omega arith)
first_set (x ∷ xs) some = refl

pub one_taken : (xs : Bytes) (k : ℕ) → k < length xs → take 1 (drop k xs) ≡ slice_index_or xs k 0 ∷ []
one_taken [] k lt = absurd (omega arith)
one_taken (x ∷ xs) zero lt = refl
one_taken (x ∷ xs) (suc k) lt = one_taken xs k (omega arith)

-- a sealer between two calls, by its parts
abbrev pub parts : Bytes → ℕ → ℕ → ℕ → Bytes → Option StreamFault → SealerState
parts key max i len bytes fault = record
    { key = key; max_chunks = max; index = i; held = take len bytes; fault = fault }

-- ---- a whole payload

module _ (s t : SealerState) {u : Unit {0}} (source : Flow) (a b c : Known) (none : s.fault ≡ None)
    (takes : IfNone s.fault (TakesAll s t source (move_of a b) (Ok u))) where
  seals_ok : {done : StreamDone} → IfNone t.fault (FinishesBy t (move_of b c) (Ok done))
      → SealsAll s source (move_of a c) (Ok done)
  seals_ok finishes =
      let (key, max, (kept, le, within, fed, end)) = at_none none takes in
      let (put, bytes, chunks) = at_none kept finishes in
      let f = fed.fed in
      let last : List Bytes = sealed_chunks_after s.key t.index t.held [] in
      let count : length (cut_after chunk_size s.held fed.text) ≡ length f.gone + length last =
      sym (length_each (sealed_chunk s.key) s.index (cut_after chunk_size s.held fed.text)) ∙ ap length (chunks_all f)
      ∙ length-append f.gone last in
      of_ended fed.took end (
        rw (chunks_all f, concat-append f.gone last)
            (Appends-trans a b c (concat f.gone) (concat last) f.written (rw key at put)),
        omega (arith, f.count, max),
        omega (arith, f.bytes, f.count),
        omega (arith, f.count),
      )

  seals_last : {fault : StreamFault} → IfNone t.fault (FinishesBy t (move_of b c) (Err fault))
      → SealsAll s source (move_of a c) (Err fault)
  seals_last finishes =
      let (key, max, (kept, le, within, fed, end)) = at_none none takes in
      let (write, found) = at_none kept finishes in
      let chunks : List Bytes = sealed_chunks_after s.key t.index t.held [] in
      let part : WritesPart (move_of b c) (concat chunks) = rw key at found in (
        t.index,
        rw write (record {
          stops = of_ended fed.took end (done_part c (concat chunks) []
              (done_fed fed.fed fed.text chunks (chunks_all fed.fed)) (sym (append-nil (concat chunks))) part);
          wrote = wrote_fed fed.fed (take part.0 (concat chunks)) c part.1;
          gave = inr (fed.text, fed.took, omega (arith, fed.fed.bytes, fed.fed.count, le));
        }),
      )

  pub seals_finish : (r : Result StreamDone StreamFault) → IfNone t.fault (FinishesBy t (move_of b c) r)
      → SealsAll s source (move_of a c) r
  seals_finish (Ok done) finishes = seals_ok finishes
  seals_finish (Err fault) finishes = seals_last finishes

-- ---- a payload whose first chunk was filled before anything was written

-- after a first `fill`, sealing the text held and the text to come seals the whole source, or fails
pub filled_seals : (key : Bytes) (max : ℕ) (t : SealerState) (more : Bool) (from mid to : Seen) (a c : Known)
    (r : Result StreamDone StreamFault)
    → Fills (at_start key max) t (flow from mid) (Ok more) → SealsAll t (flow mid to) (move_of a c) r
    → SealsAll (at_start key max) (flow from to) (move_of a c) r
filled_seals key max t more from mid to a c r (x, took, is, fits, full, ended) seals = go r (rw is at seals)
  where
    le : length x ≤ chunk_size
    le = rw is at fits

    stops : (text : Bytes) (f : StreamFault) → StopsIn key max 0 x text (move_of a c) f
        → StopsIn key max 0 [] (x ++ text) (move_of a c) f
    stops text Read h = rw (cut_held x text le) h
    stops text Write h = rw (cut_held x text le) h
    stops text TooManyChunks h = rw (cut_held x text le) h
    stops text f h = absurd h

    gave : {fault : StreamFault} (j : ℕ)
        → (fault ≡ Read) ⊎ GaveAtMost (chunk_size * (j + 1 - 0) + 1 - length x) (flow mid to)
        → (fault ≡ Read) ⊎ GaveAtMost (chunk_size * (j + 1 - 0) + 1 - 0) (flow from to)
    gave j (inl e) = inl e
    gave j (inr g) = inr (x ++ g.0, gave_then took g.1, omega (arith, length-append x g.0, g.2, le))

    go : (q : Result StreamDone StreamFault)
        → SealsAll (record (at_start key max) { held = x }) (flow mid to) (move_of a c) q
        → SealsAll (at_start key max) (flow from to) (move_of a c) q
    go (Ok done) h = of_then took h (λ text q.
        rw (cut_held x text le) (q.0, q.1, omega (arith, q.2, length-append x text), q.3))
    go (Err fault) (j, s) = (
      j,
      record { stops = of_then took s.stops (λ text h. stops text fault h); wrote = s.wrote; gave = gave j s.gave },
    )

-- after a first `fill` reached the end of the source, `finish` seals the whole source, or fails
pub filled_finishes : (key : Bytes) (max : ℕ) (t : SealerState) (from to : Seen) (a c : Known)
    (r : Result StreamDone StreamFault) → 1 ≤ max
    → Fills (at_start key max) t (flow from to) (Ok false) → FinishesBy t (move_of a c) r
    → SealsAll (at_start key max) (flow from to) (move_of a c) r
filled_finishes key max t from to a c r some (x, took, is, fits, full, ended) finishes = go r (rw is at finishes)
  where
    le : length x ≤ chunk_size
    le = rw is at fits

    same : cut_after chunk_size [] x ≡ x ∷ []
    same = rw (append-nil x) at (cut_held x [] le)

    go : (q : Result StreamDone StreamFault) → FinishesBy (record (at_start key max) { held = x }) (move_of a c) q
        → SealsAll (at_start key max) (flow from to) (move_of a c) q
    go (Ok done) (put, bytes, count) = of_ended took (ended refl)
        (rw same (put, omega (arith, some), omega (arith, bytes), omega (arith, count)))
    go (Err fault) (write, part) = (
      0,
      rw write (record {
        stops = of_ended took (ended refl) (rw same part);
        wrote = (take part.0 (concat (sealed_chunks_after key 0 x [])), part.1, omega arith);
        gave = inr (x, took, omega (arith, le));
      }),
    )
