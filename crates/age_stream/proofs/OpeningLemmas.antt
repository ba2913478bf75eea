-- The next piece: first the bytes read ahead, then bytes that a call reads.
use Rattle.age_stream.proofs.Common.{◌≡◌, ◌⊎◌, ◌∙◌, ◌+◌, ◌-◌, ◌^◌, ◌<◌, ◌≤◌, ℕ, [], length, take, drop, min, ap, sym, arith, refl, inl, inr, not, subst, Option, Some, None, true, false, Bool, nat_le, cond, Result, Ok, Err, IfNone, IfSome, IsErrOf, cases_lt, le-leb, lt-leb, drop-drop, take_all, take-take, length-drop, length-take, length-take-le, Bytes, Flow, GaveSome, Seen, flow, StreamFault, Read, chunk_size, sealed_chunk_size, chunk_buf_size, gave_none, Piece, Advances, IsAtPiece, Loses, OpenerState, ReadsPiece, held_of, outcome, first_outcome, after_first, ◌++◌, length-append, GivesText, OpensPiece, ReadsAhead, when_none, Known, GaveAtMost, flow_by, FileKey, nonce_size, Starts, StartsReader}

-- ---- n bytes of a buffer, of which the first piece was opened

-- the first `size` of n bytes
pub take_most : (size n : ℕ) (l : Bytes) → take size (take n l) ≡ take (min n size) l
take_most size n l = grind (arith, take-take, take_all, length-take)

-- lists that agree from an offset on agree from a later offset on
pub drop_same : (n size : ℕ) (a b : Bytes) → n ≤ size → drop n a ≡ drop n b → drop size a ≡ drop size b
drop_same n size a b le same =
    let sum : n + (size - n) ≡ size = omega arith in
    let tail = λ (l : Bytes). rw sum at (drop-drop (size - n) n l) in
    sym (tail a) ∙ ap (drop (size - n)) same ∙ tail b

rest_of : (size n : ℕ) (filled after : Bytes) → length filled ≡ size + 1 → n ≤ size + 1 → 16 ≤ size
    → drop (min n size - 16) after ≡ drop (min n size - 16) filled → held_of (not (nat_le n size)) (drop size after)
    ≡ cond (nat_le (length (take n filled)) size) None (Some (drop size (take n filled)))
rest_of size n filled after full le some kept = grind (arith, take_all, lt-leb, drop_same, length-take-le, le-leb)

ahead_has_len : (ahead : ℕ) (bytes : Bytes) → length bytes ≡ chunk_buf_size → ahead ≤ 1
    → length (take ahead (drop sealed_chunk_size bytes)) ≡ ahead
ahead_has_len ahead bytes size le =
    length-take-le ahead (drop sealed_chunk_size bytes) (omega (arith, length-drop sealed_chunk_size bytes))

-- what opening a piece returns, and whether another follows
abbrev piece_of : (last : Bool) → Result ℕ StreamFault → Result Piece StreamFault
piece_of last (Ok len) = Ok (record { len = len; more = not last })
piece_of last (Err fault) = Err fault

-- a piece was read, and opened with this result
pub reads_piece : {key : Bytes} {max i n : ℕ} {held filled after : Bytes} {source : Flow} (r : Result ℕ StreamFault)
    → ReadsAhead sealed_chunk_size held n filled source → length filled ≡ chunk_buf_size
    → GivesText (outcome key max i (nat_le n sealed_chunk_size) (take (min n sealed_chunk_size) filled)) after r
    → drop (min n sealed_chunk_size - 16) after ≡ drop (min n sealed_chunk_size - 16) filled
    → ReadsPiece key max i held after source (piece_of (nat_le n sealed_chunk_size) r)
reads_piece {key} {max} {i} {n} {held} {filled} {after} r h size text rest = record {
  given = h.given;
  gave = h.gave;
  filled = (omega (arith, h.room, len), λ low. h.end (omega (arith, len)));
  opens = opens r text;
}
  where
    whole : length (take n filled) ≡ n
    whole = length-take-le n filled (omega (arith, h.room))

    len : length held + length h.given ≡ n
    len = sym (length-append held h.given) ∙ ap length (sym h.is) ∙ whole

    first : first_outcome key max i (held ++ h.given)
        ≡ outcome key max i (nat_le n sealed_chunk_size) (take (min n sealed_chunk_size) filled)
    first = ap (first_outcome key max i) (sym h.is)
        ∙ ap (λ k. outcome key max i (nat_le k sealed_chunk_size) (take sealed_chunk_size (take n filled))) whole
        ∙ ap (outcome key max i (nat_le n sealed_chunk_size)) (take_most sealed_chunk_size n filled)

    opens : (q : Result ℕ StreamFault)
        → GivesText (outcome key max i (nat_le n sealed_chunk_size) (take (min n sealed_chunk_size) filled)) after q
        → OpensPiece key max i (held ++ h.given) after (piece_of (nat_le n sealed_chunk_size) q)
    opens (Ok k) (is, within) = (
      first ∙ is,
      within,
      rest_of sealed_chunk_size n filled after size h.room (omega arith) rest ∙ ap after_first h.is,
    )
    opens (Err fault) is = first ∙ is

-- the byte that was read ahead is all that follows the first 65,552 bytes
pub ahead_one : (bytes : Bytes) → length bytes ≡ chunk_buf_size
    → take 1 (drop sealed_chunk_size bytes) ≡ drop sealed_chunk_size bytes
ahead_one bytes size =
    take_all 1 (drop sealed_chunk_size bytes) (omega (arith, length-drop sealed_chunk_size bytes, size))

-- if another piece follows, one byte of it was read ahead, and the text before it is a full chunk
one_byte_ahead : (more : Bool) (len : ℕ) (bytes : Bytes) → length bytes ≡ chunk_buf_size
    → (more ≡ true → len ≡ chunk_size) → IfSome (held_of more (take 1 (drop sealed_chunk_size bytes)))
    (λ ahead. (length ahead ≡ 1) × (length (take len bytes) ≡ chunk_size))
one_byte_ahead true len bytes size full =
    let is = full refl in
    (ahead_has_len 1 bytes size (omega arith), length-take-le len bytes (omega arith) ∙ is)
one_byte_ahead false len bytes size full = tt

-- ---- a call of an opener, by its parts before the call and after it

abbrev pub parts : Bytes → ℕ → ℕ → Bool → ℕ → Bytes → ℕ → Option StreamFault → OpenerState
parts key max i more ahead bytes len fault = record {
  key = key;
  max_chunks = max;
  index = i;
  held = held_of more (take ahead (drop sealed_chunk_size bytes));
  text = take len bytes;
  fault = fault;
}

-- the same buffers by other names
moved : {key : Bytes} {max i : ℕ}
    (ahead : ℕ) {slice old bytes items : Bytes} {source : Flow} {r : Result Piece StreamFault}
    → slice ≡ old → items ≡ bytes → ReadsPiece key max i (take ahead (drop sealed_chunk_size slice)) bytes source r
    → ReadsPiece key max i (take ahead (drop sealed_chunk_size old)) items source r
moved {key} {max} {i} ahead {slice} {items} {source} {r} same all h = grind arith

-- a piece was opened
pub advances_ok : {now : OpenerState} {from to : Seen} {key : Bytes} {max i : ℕ} (ahead len : ℕ) {more : Bool}
    (old : Bytes) {slice bytes items : Bytes} {fault : Option StreamFault} {piece : Piece}
    → parts key max i more ahead old len fault ≡ now → more ≡ true → fault ≡ None → slice ≡ old
    → length old ≡ chunk_buf_size → ahead ≤ 1 → length bytes ≡ chunk_buf_size → items ≡ bytes
    → max ≤ 2 ^ 88 → i < max → (piece.more ≡ true → piece.len ≡ chunk_size) → IsErrOf {T = Piece} (Ok piece) Read
    ⊎ ReadsPiece key max i (take ahead (drop sealed_chunk_size slice)) bytes (flow from to) (Ok piece)
    → IfNone now.fault (IsErrOf {T = Bool} (Ok true) Read
    ⊎ Advances now (parts key max (i + 1) piece.more 1 items piece.len fault) (flow from to) (Ok true))
advances_ok ahead len old {items} {piece} view is_more none same size le new_size all small within full opens =
    rw (← view, is_more, none) (elim opens [
      | inl e ↦ absurd (cc)
      | inr found ↦
          let r = moved ahead same all found in
          let l = ahead_has_len ahead old size le in
          let room = ap length all ∙ new_size in
          inr (record {
            key = refl;
            max_chunks = refl;
            small = small;
            keeps = (refl, refl, (λ e. within), one_byte_ahead piece.more piece.len items room full);
            ahead = omega arith;
            given = r.given;
            gave = r.gave;
            filled = r.filled;
            opens = (refl, r.opens.0, ap (held_of piece.more) (ahead_one items room) ∙ r.opens.2);
          })
    ])

-- a fault was met
pub advances_err : {now : OpenerState} {from to : Seen} {key : Bytes} {max i : ℕ} (ahead len : ℕ) {more : Bool}
    (old : Bytes) {slice bytes : Bytes} (items : Bytes) {kept : Option StreamFault} {fault : StreamFault}
    → parts key max i more ahead old len kept ≡ now → more ≡ true → slice ≡ old → length old ≡ chunk_buf_size
    → ahead ≤ 1 → max ≤ 2 ^ 88 → IsErrOf {T = Piece} (Err fault) Read
    ⊎ ReadsPiece key max i (take ahead (drop sealed_chunk_size slice)) bytes (flow from to) (Err fault)
    → (fault ≡ Read) ⊎ IsAtPiece max i fault → IfNone now.fault (IsErrOf {T = Bool} (Err fault) Read
    ⊎ Advances now (parts key max i false ahead items 0 (Some fault)) (flow from to) (Err fault))
advances_err ahead len old items {kept} {fault} view is_more same size le small opens at =
    rw (← view, is_more) (when_none kept (λ _. elim opens [
      | inl e ↦ inl (cc)
      | inr found ↦ elim at [
        | inl read ↦ inl (ap Err read)
        | inr met ↦
            let r = moved ahead same refl found in
            let l = ahead_has_len ahead old size le in
            inr (record {
              key = refl;
              max_chunks = refl;
              small = small;
              keeps = (refl, refl, met);
              ahead = omega arith;
              given = r.given;
              gave = r.gave;
              filled = r.filled;
              opens = r.opens;
            })
      ]
    ]))

-- after the last piece
pub advances_none : {now : OpenerState} (from : Seen) {key : Bytes} {max i : ℕ} (ahead len : ℕ) {more : Bool}
    (bytes : Bytes) {fault : Option StreamFault}
    → parts key max i more ahead bytes len fault ≡ now → more ≡ false → fault ≡ None → max ≤ 2 ^ 88
    → IfNone now.fault (IsErrOf {T = Bool} (Ok false) Read
    ⊎ Advances now (parts key max i more ahead bytes 0 fault) (flow from from) (Ok false))
advances_none from ahead len bytes view over none small = rw (← view, over, none) (inr (record {
  key = refl;
  max_chunks = refl;
  small = small;
  keeps = (refl, refl, (λ e. absurd (cc)), tt);
  ahead = omega arith;
  given = [];
  gave = gave_none;
  filled = (refl, refl);
  opens = (refl, refl);
}))

-- ---- a reader over an opener

-- a reader of the source from which an opener read the nonce
pub starts_reader : {S : Type 0} (to_come : S → Known) (gave : S → Bytes → Type 0) (failed : S → ℕ) (k : FileKey)
    (max : ℕ) (old : S) {mid new : S} (s : OpenerState) {t : OpenerState}
    → new ≡ mid → t ≡ s → Starts k max (flow_by to_come gave old mid) (Ok s)
    → IsErrOf {T = OpenerState} (Ok s) Read ⊎ GaveAtMost nonce_size (flow_by to_come gave old mid)
    → failed mid ≡ failed old → StartsReader to_come gave failed k max old new (Ok t)
starts_reader to_come gave failed k max old s same opener starts most uncounted =
    rw same (rw opener (starts, elim most [ inl e ↦ absurd (cc) | inr x ↦ x ], uncounted))
