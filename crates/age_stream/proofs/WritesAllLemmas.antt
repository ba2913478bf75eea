-- The openings of pieces, written one after another.
use Rattle.age_stream.proofs.Common.{◌≡◌, ◌⊎◌, ◌∙◌, ◌++◌, ◌+◌, ◌-◌, ◌*◌, ◌<◌, ◌≤◌, ℕ, [], length, take, ap, arith, append-nil, append_assoc, length-append, refl, Some, None, Bool, true, false, inl, inr, Result, Ok, Err, Fits, IfNone, IfSome, IsErrOf, w128, Appends, IsAtEnd, Appends-trans, Appends-nil, le-leb, lt-leb, cases_lt, drop-append-le, take-append-le, Bytes, Gave, Known, Seen, WritesPart, flow, move_of, Done, StreamFault, Read, Write, chunk_size, sealed_chunk_size, gave_none, gave_then, of_any, of_more, of_then, done_part, Advances, EndsAt, IsAtPiece, IsFilled, Loses, OpenerState, OpensNext, WritesAll, WritesReading, left_of, pieces_left, reading_left, pieces, Reading, after_first, first_outcome, reading_from, stop, at_none, cases_Option}
use Rattle.age_stream.proofs.ReadingLemmas.{count_first, reading_first}

-- a reading with this text before its plaintext
abbrev pub before : Bytes → Reading StreamFault → Reading StreamFault
before text reading = record { plaintext = text ++ reading.plaintext; fault = reading.fault }

-- the first piece of c opened to this text
pub record IsFirst (key : Bytes) (max i : ℕ) (c text : Bytes) (left : Known) : Type 0 where
  pub reads : reading_from key max i c ≡ before text (reading_left key max (i + 1) left)
  pub count : length (pieces c) ≡ length (pieces_left left) + 1

pub first_ok : (key : Bytes) (max i : ℕ) (c text : Bytes) (left : Known) → first_outcome key max i c ≡ Ok text
    → left ≡ after_first c → IsFirst key max i c text left
first_ok key max i c text left is rest = grind (arith, reading_first, count_first)

pub first_err : (key : Bytes) (max i : ℕ) (c : Bytes) (fault : StreamFault) → first_outcome key max i c ≡ Err fault
    → reading_from key max i c ≡ stop fault
first_err key max i c fault is = rw is at (reading_first key max i c)

-- with d after c, the first outcome is the same, and d follows the rest; if c is one piece, d is []
first_on : (key : Bytes) (max i : ℕ) (c d : Bytes) → IfNone (after_first c) (d ≡ [])
    → (first_outcome key max i (c ++ d) ≡ first_outcome key max i c)
    × (left_of (after_first c) d ≡ after_first (c ++ d))
first_on key max i c d fits = elim (cases_lt sealed_chunk_size (length c)) [
  | inl lt ↦
      let l : length (c ++ d) ≡ length c + length d = length-append c d in
      rw (
        lt-leb (length (c ++ d)) sealed_chunk_size (omega arith),
        lt-leb (length c) sealed_chunk_size lt,
        take-append-le sealed_chunk_size c d (omega arith),
        drop-append-le sealed_chunk_size c d (omega arith),
      )
      (refl, refl)
  | inr le ↦
      let none = rw (le-leb (length c) sealed_chunk_size le) at fits in
      rw (none, append-nil c, le-leb (length c) sealed_chunk_size le) (refl, refl)
]

-- reading `given` and d from s gives `done` and then the reading of d from t, in as many pieces
abbrev IsOpenedIn : (s t : OpenerState) (done given d : Bytes) → Type 0
IsOpenedIn s t done given d =
    (reading_left s.key s.max_chunks s.index (left_of s.held (given ++ d))
    ≡ before done (reading_left s.key s.max_chunks t.index (left_of t.held d)))
    × (s.index + length (pieces_left (left_of s.held (given ++ d)))
    ≡ t.index + length (pieces_left (left_of t.held d)))

-- the openings of the pieces so far
pub record Opened (s t : OpenerState) (bytes : ℕ) (from now : Seen) (old new : Known) : Type 0 where
  pub done : Bytes
  pub len : bytes ≡ length done
  pub key : t.key ≡ s.key
  pub max_chunks : t.max_chunks ≡ s.max_chunks
  pub none : t.fault ≡ None
  pub index : s.index ≤ t.index
  pub written : Appends old new done
  pub bound : length done ≤ chunk_size * (t.index - s.index)
  pub full : IfSome t.held (λ ahead. length done ≡ chunk_size * (t.index - s.index))
  pub given : Bytes
  pub gave : Gave (flow from now) given
  pub size : IfSome t.held (λ ahead. length given ≤ sealed_chunk_size * (t.index - s.index) + length ahead)
  pub ended : IfNone t.held (IfSome s.held (λ ahead. IsAtEnd now.to_come))
  pub reads : (d : Bytes) → IfNone t.held (d ≡ []) → IsOpenedIn s t done given d

pub opened_none : (s : OpenerState) {from : Seen} {old : Known} → s.fault ≡ None → Opened s s 0 from from old old
opened_none s {from} {old} none = record {
  done = [];
  len = refl;
  key = refl;
  max_chunks = refl;
  none = none;
  index = omega arith;
  written = Appends-nil old;
  bound = omega arith;
  full = grind arith;
  given = [];
  gave = gave_none;
  size = grind arith;
  ended = grind arith;
  reads = λ d fits. (refl, refl);
}

-- one more call, after those of `Opened`
module _ {s t u : OpenerState} {n : ℕ} {from now next : Seen} {a b : Known} {r : Result Bool StreamFault}
    (o : Opened s t n from now a b) (adv : Advances t u (flow now next) r) where
  -- the call had a piece: `held` was read before, the rest by the call
  record HasPiece : Type 0 where
    held : Bytes
    is : t.held ≡ Some held
    filled : IsFilled (Some held) adv.given (flow now next)
    opens : OpensNext s.key s.max_chunks t.index (Some (held ++ adv.given)) u.held u.text r

  has_piece : (r ≡ Ok false → ⊥) → HasPiece
  has_piece not = elim (cases_Option t.held) [
    | inl (h, is) ↦ record {
      held = h;
      is = is;
      filled = rw is at adv.filled;
      opens = rw (o.key, o.max_chunks, is) at adv.opens;
    }
    | inr is ↦ let none = rw is at adv.opens in absurd (not none.0)
  ]

  gave_len : HasPiece → length (o.given ++ adv.given) ≤ sealed_chunk_size * (t.index - s.index + 1) + 1
  gave_len p = let size = rw p.is at o.size in omega (arith, p.filled.0, length-append o.given adv.given)

  -- the last piece is met only at the end of the source
  at_end : (p : HasPiece) {P : Type 0} → (IsAtEnd next.to_come → P) → IfNone (after_first (p.held ++ adv.given)) P
  at_end p end =
      let c : Bytes = p.held ++ adv.given in
      elim (cases_lt sealed_chunk_size (length c)) [
        | inl lt ↦ rw (lt-leb (length c) sealed_chunk_size lt) tt
        | inr le ↦ rw (le-leb (length c) sealed_chunk_size le)
            (end (p.filled.1 (omega (arith, le, length-append p.held adv.given))))
      ]

  -- the reading of the pieces so far, then of this piece and the bytes to come
  reads_piece : (p : HasPiece) (d : Bytes)
      → (reading_left s.key s.max_chunks s.index (left_of s.held ((o.given ++ adv.given) ++ d))
      ≡ before o.done (reading_from s.key s.max_chunks t.index ((p.held ++ adv.given) ++ d)))
      × (s.index + length (pieces_left (left_of s.held ((o.given ++ adv.given) ++ d)))
      ≡ t.index + length (pieces ((p.held ++ adv.given) ++ d)))
  reads_piece p d =
      rw (append_assoc o.given adv.given d, append_assoc p.held adv.given d)
      (rw p.is at (o.reads (adv.given ++ d) (rw p.is tt)))

-- a call that opened a piece
module _ {s t u : OpenerState} {n : ℕ} {from now next : Seen} {a b : Known}
    (o : Opened s t n from now a b) (adv : Advances t u (flow now next) (Ok true)) where
  opened_piece : HasPiece o adv
  opened_piece = has_piece o adv (λ e. cc)

  next_reads : (d : Bytes) → IfNone (after_first (opened_piece.held ++ adv.given)) (d ≡ [])
      → IsOpenedIn s u (o.done ++ u.text) (o.given ++ adv.given) d
  next_reads d fits =
      let p = opened_piece in
      let on = first_on s.key s.max_chunks t.index (p.held ++ adv.given) d fits in
      let first = first_ok s.key s.max_chunks t.index ((p.held ++ adv.given) ++ d) u.text (left_of u.held d)
      (on.0 ∙ p.opens.1) (ap (λ (x : Known). left_of x d) p.opens.2 ∙ on.1) in
      let past = reads_piece o adv p d in
      rw (adv.keeps.1, append_assoc o.done u.text)
      (past.0 ∙ ap (before o.done) first.reads, omega (arith, past.1, first.count))

  pub opened_more : {c : Known} → length u.text ≤ chunk_size → Appends b c u.text
      → Opened s u (n + length u.text) from next a c
  opened_more {c} le put =
      let p = opened_piece in
      let up : u.index ≡ t.index + 1 = adv.keeps.1 in
      let full = rw p.is at o.full in
      let l : length (o.done ++ u.text) ≡ length o.done + length u.text = length-append o.done u.text in
      let size = gave_len o adv p in
      record {
        done = o.done ++ u.text;
        len = omega (arith, o.len, l);
        key = adv.key ∙ o.key;
        max_chunks = adv.max_chunks ∙ o.max_chunks;
        none = adv.keeps.0;
        index = omega (arith, o.index);
        written = Appends-trans a b c o.done u.text o.written put;
        bound = omega (arith, o.index);
        full = grind (arith, adv.keeps.3, up, full, l, o.index);
        given = o.given ++ adv.given;
        gave = gave_then o.gave adv.gave;
        size = grind (arith, adv.keeps.3, up, size, o.index);
        ended = rw p.opens.2 (at_end o adv p (λ end. grind (arith, end)));
        reads = λ d fits. next_reads d (rw p.opens.2 at fits);
      }

  -- a write of the text of the piece failed
  pub writes_write : (c : Known) → WritesPart (move_of b c) u.text
      → WritesAll s (flow from next) (move_of a c) (Err Write)
  writes_write c part = of_more (gave_then o.gave adv.gave) (λ d end.
      let past = next_reads d (at_end o adv opened_piece end) in
      let rest = reading_left s.key s.max_chunks u.index (left_of u.held d) in
      rw (past.0, append_assoc o.done u.text)
      (done_part c u.text rest.plaintext (record { prefix = o.done; took = o.written; is = refl }) refl part))

  pub ends_write : {c : Known} → WritesPart (move_of b c) u.text
      → EndsAt s.max_chunks 0 (flow from next) (move_of a c) Write
  ends_write {c} part =
      let full = rw opened_piece.is at o.full in
      record {
        piece = t.index - s.index;
        text = o.done ++ take part.0 u.text;
        written = Appends-trans a b c o.done (take part.0 u.text) o.written part.1;
        at = inl (refl, omega (arith, length-append o.done (take part.0 u.text)));
        gave = (o.given ++ adv.given, gave_then o.gave adv.gave, omega (arith, gave_len o adv opened_piece));
      }

  -- the count of bytes has room for one more text
  pub opened_room : (len : ℕ) → len ≤ chunk_size → Fits w128 (n + len)
  opened_room len le =
      let within : t.index < t.max_chunks = adv.keeps.2 refl in
      omega (arith, o.len, o.bound, adv.small)

-- ---- how the calls end

-- nothing is left
module _ {s t u : OpenerState} {n : ℕ} {from now next : Seen} {a b : Known}
    (o : Opened s t n from now a b) (adv : Advances t u (flow now next) (Ok false)) where
  -- the reading so far, whatever bytes d are to come; none are at the end of the source
  reads_on : t.held ≡ None → (d : Bytes) → (IsAtEnd now.to_come → d ≡ []) → IsOpenedIn s t o.done o.given d
  reads_on is d end = elim (cases_Option s.held) [
    | inl (h, first) ↦ o.reads d (rw is (end (rw (is, first) at o.ended)))
    | inr first ↦ let old = o.reads [] (rw is refl) in rw (is, first) (rw (is, first) at old)
  ]

  pub writes_done : (done : Done) → done.bytes ≡ n → done.chunks ≡ t.index - s.index
      → WritesAll s (flow from next) (move_of a b) (Ok done)
  writes_done done bytes chunks = elim (cases_Option t.held) [
    | inl (h, is) ↦ let some = rw is at adv.opens in absurd (cc)
    | inr is ↦
        let (none, same) = rw is at adv.filled in
        of_more (rw (none, append-nil o.given) at (gave_then o.gave adv.gave)) (λ d end.
        let past = rw is at (reads_on is d (rw same at end)) in
        rw (past.0, append-nil o.done) (refl, o.written, bytes ∙ o.len, chunks ∙ omega (arith, past.1)))
  ]

-- a read failed
pub writes_read : {s t : OpenerState} {n : ℕ} {from now next : Seen} {a b : Known} → Opened s t n from now a b
    → Loses t.held (flow now next) → WritesAll s (flow from next) (move_of a b) (Err Read)
writes_read {s} {t} {from} {now} {next} {a} {b} o lost = elim (cases_Option t.held) [
  | inl (h, is) ↦
      of_then o.gave (of_any (rw is at lost) (λ d.
      let past = o.reads d (rw is tt) in
      let left = reading_left s.key s.max_chunks t.index (left_of t.held d) in
      rw past.0 (done_part b [] left.plaintext (record { prefix = o.done; took = o.written; is = refl }) refl
      (0, Appends-nil b)))) (λ d part. part)
  | inr is ↦ absurd (rw is at lost)
]

-- a piece's fault
stops_writes : (reading : Reading StreamFault) (n max i : ℕ) (a b : Known) (fault : StreamFault) → IsAtPiece max i fault
    → (reading.fault ≡ Some fault) × Appends a b reading.plaintext → WritesReading reading n (move_of a b) (Err fault)
stops_writes a b c d e f g h i = grind arith

module _ {s t u : OpenerState} {n : ℕ} {from now next : Seen} {a b : Known} {fault : StreamFault}
    (o : Opened s t n from now a b) (adv : Advances t u (flow now next) (Err fault)) where
  refused_piece : HasPiece o adv
  refused_piece = has_piece o adv (λ e. cc)

  writes_stop : WritesAll s (flow from next) (move_of a b) (Err fault)
  writes_stop = of_more (gave_then o.gave adv.gave) (λ d end.
      let p = refused_piece in
      let c : Bytes = p.held ++ adv.given in
      let on = first_on s.key s.max_chunks t.index c d (at_end o adv p end) in
      let stop = first_err s.key s.max_chunks t.index (c ++ d) fault (on.0 ∙ p.opens) in
      let all = (reads_piece o adv p d).0 ∙ ap (before o.done) stop in
      let rest : Bytes = (o.given ++ adv.given) ++ d in
      stops_writes (reading_left s.key s.max_chunks s.index (left_of s.held rest))
      (length (pieces_left (left_of s.held rest))) t.max_chunks t.index a b fault adv.keeps.2
      (rw (all, append-nil o.done) (refl, o.written)))

  ends_stop : EndsAt s.max_chunks 0 (flow from next) (move_of a b) fault
  ends_stop = record {
    piece = t.index;
    text = o.done;
    written = o.written;
    at = inr (rw (← o.max_chunks) adv.keeps.2);
    gave = (o.given ++ adv.given, gave_then o.gave adv.gave, omega (arith, gave_len o adv refused_piece));
  }

-- the clause of a call that returned no fault
pub advanced : {s t : OpenerState} (u : OpenerState) {n : ℕ} {from now next : Seen} {a b : Known} {more some : Bool}
    → Opened s t n from now a b → more ≡ some
    → IfNone t.fault (IsErrOf (Ok more) Read ⊎ Advances t u (flow now next) (Ok more))
    → Advances t u (flow now next) (Ok some)
advanced u o is h = elim (rw is at (at_none o.none h)) [ inl e ↦ absurd (cc) | inr adv ↦ adv ]

-- a call returned a fault, that of a read or of a piece
pub failed_writes : {s t : OpenerState} (u : OpenerState) {n : ℕ} {from now next : Seen} {a b : Known}
    (fault : StreamFault) → Opened s t n from now a b
    → IfNone t.fault (IsErrOf {T = Bool} (Err fault) Read ⊎ Advances t u (flow now next) (Err fault))
    → IfNone t.fault (Loses t.held (flow now next)) → WritesAll s (flow from next) (move_of a b) (Err fault)
failed_writes u fault o h lost = elim (at_none o.none h) [
  | inl e ↦ let read : fault ≡ Read = cc in rw read (writes_read o (at_none o.none lost))
  | inr adv ↦ writes_stop o adv
]

pub failed_ends : {s t : OpenerState} (u : OpenerState) {n : ℕ} {from now next : Seen} {a b : Known}
    (fault : StreamFault) → Opened s t n from now a b
    → IfNone t.fault (IsErrOf {T = Bool} (Err fault) Read ⊎ Advances t u (flow now next) (Err fault))
    → (fault ≡ Read) ⊎ EndsAt s.max_chunks 0 (flow from next) (move_of a b) fault
failed_ends u fault o h = elim (at_none o.none h) [ inl e ↦ inl (cc) | inr adv ↦ inr (ends_stop o adv) ]
