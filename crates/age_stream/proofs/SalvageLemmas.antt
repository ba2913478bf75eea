-- The parts of pieces that are saved one after another.
use Rattle.age_stream.proofs.Common.{◌≡◌, ◌⊎◌, ◌∙◌, ◌++◌, ◌∷◌, ◌+◌, ◌-◌, ◌*◌, ◌<◌, ◌≤◌, ℕ, List, [], length, take, drop, ap, sym, arith, append_assoc, append-nil, length-append, refl, Bool, not, inl, inr, None, Some, Result, Ok, Err, nat_le, min, suc, IfErr, Appends, IsAtEnd, Appends-trans, Appends-nil, le-leb, lt-leb, cases_lt, drop-append-le, take_all, take_at, drop_at, take-append-le, length-take-le, length-drop, Bytes, opened_text, Gave, GaveSome, Known, OfGiven, Seen, WritesPart, flow, move_of, FileKey, StreamFault, NonceTruncated, TooManyChunks, Read, Write, Memory, chunk_size, sealed_chunk_size, chunk_buf_size, gave_more, gave_none, gave_then, of_any, of_ended, of_map, of_more, of_then, LostChunk, Salvaged, Saved, Nothing, Zeros, length-sealed_text, opened_is, EndsAt, GivesNonce, chunk_nonce, payload_key, pieces, piece_opening, EndsSaving, KnownLosses, Part, ReadsAhead, Reports, Salvages, SavesParts, SavesPayload, early_after, first_part, in_place, last_saved, latest_early, loss, losses, lost_part, part, parts, payload_parts, salvaged_text, saved_before, Chunk, summary, losses_of, with_part, Option, concat-append, map-append, map, zero, true, false, take-take, Padded, closed_part, opening_or, out_of_place, padded_part, padding, max_padding, cases_Option}
use Rattle.age_stream.proofs.PayloadLemmas.{length_each}
use Rattle.age_stream.proofs.CuttingLemmas.{cut_last}
use Rattle.age_stream.proofs.OpeningLemmas.{take_most}
use Rattle.age_stream.proofs.ReadingLemmas.{cut_some, cut_step, is_end_cut}

-- ---- one part

opened_short : (key nonce c : Bytes) → length c < 16 → opened_text key nonce [] c ≡ None
opened_short key nonce c short = elim (cases_Option (opened_text key nonce [] c)) [
  | inl (t, is) ↦
      let sealed_so = ap length ((opened_is key nonce [] c t).0 is) in
      absurd (omega (arith, sealed_so, length-sealed_text key nonce [] t))
  | inr none ↦ none
]

pub part-opened : (key : Bytes) (i : ℕ) (last : Bool) (c t : Bytes) → piece_opening key i last c ≡ Some t
    → part key i last c ≡ record { text = t; saved = in_place i last (length c) }
part-opened key i last c t is = rw is refl

-- a piece opens in its place, or with the other last-chunk byte, or is a `closed_part`
pub part_cases : (key : Bytes) (i : ℕ) (last : Bool) (c : Bytes) → ((t : Bytes) × (piece_opening key i last c ≡ Some t)
    × (part key i last c ≡ record { text = t; saved = in_place i last (length c) }))
    ⊎ ((t : Bytes) × (piece_opening key i (not last) c ≡ Some t)
    × (part key i last c ≡ record { text = t; saved = out_of_place last }))
    ⊎ (part key i last c ≡ closed_part key i last c)
part_cases key i last c = grind (arith, cases_Option, part-opened)

-- a piece that is shorter than k bytes and a tag does not open with padding of k bytes or more
pub padded_short : (key : Bytes) (i k n : ℕ) (c : Bytes) → length c < k + 16 → padded_part key i k n c ≡ lost_part c
unfolding padded_part
padded_short key i k zero c short = refl
padded_short key i k (suc n) c short = grind (arith, opened_short, length-take-le, padded_short key i (k + 1) n c (omega (arith, short)))

-- a shorter prefix of the first `end` bytes
shorter : (k end : ℕ) (b : Bytes) → end ≤ length b → take (length (take end b) - k) (take end b) ≡ take (end - k) b
shorter k end b le =
    ap (λ n. take (n - k) (take end b)) (length-take-le end b le) ∙ take-take (end - k) end b (omega arith)

pub padded_step : (key : Bytes) (i k n end : ℕ) {nonce : Bytes} (b : Bytes) → end ≤ length b
    → nonce ≡ chunk_nonce i true → k + n ≡ max_padding + 1 → k ≤ max_padding
    → padded_part key i k n (take end b) ≡ opening_or (Padded k) (opened_text key nonce [] (take (end - k) b))
    (padded_part key i (k + 1) (max_padding - k) (take end b))
unfolding padded_part
padded_step key i k n end b le is sum some =
    let left : n ≡ suc (max_padding - k) = omega arith in rw (left, is, shorter k end b le)

-- once all lengths of padding were tried, the part is that of a lost piece
pub padded_end : (key : Bytes) (i k : ℕ) {end most : ℕ} (c : Bytes) → length c ≡ end
    → most ≡ min max_padding (end - 16) → most + 1 ≤ k → padded_part key i k (max_padding + 1 - k) c ≡ lost_part c
unfolding padded_part
padded_end key i k {end} {most} c len is past = grind (arith, padded_short)

closed_short : (key : Bytes) (i : ℕ) (last : Bool) (c : Bytes) → length c < 16 → closed_part key i last c ≡ lost_part c
closed_short key i false c short = refl
closed_short key i true c short = padded_short key i 1 max_padding c (omega (arith, short))

pub part_short : (key : Bytes) (i : ℕ) (last : Bool) (c : Bytes) (end : ℕ) (bytes : Bytes) → length c ≡ end → end < 16
    → part key i last c ≡ record { text = take (end - 16 - 0) bytes; saved = Nothing }
part_short key i last c end bytes len short = grind (arith, opened_short, closed_short, le-leb)

-- ---- the parts of what follows the nonce

-- the last piece
pub parts_last : (key : Bytes) (i : ℕ) (c : Bytes) → length c ≤ sealed_chunk_size
    → parts key i (pieces c) ≡ first_part key i c ∷ []
parts_last key i c le =
    rw (cut_last sealed_chunk_size c le, le-leb (length c) sealed_chunk_size le, take_all sealed_chunk_size c le)

-- the first piece of c, if more bytes of c follow it, whatever bytes d come after c
pub parts_next : (key : Bytes) (i : ℕ) (c d : Bytes) → sealed_chunk_size < length c
    → parts key i (pieces (c ++ d)) ≡ first_part key i c ∷ parts key (i + 1) (pieces (drop sealed_chunk_size c ++ d))
parts_next key i c d lt =
    let l : length (c ++ d) ≡ length c + length d = length-append c d in
    rw (
      cut_step sealed_chunk_size (c ++ d) (omega arith) (omega arith),
      is_end_cut sealed_chunk_size [] (drop sealed_chunk_size (c ++ d)),
      lt-leb (length c) sealed_chunk_size lt,
      take-append-le sealed_chunk_size c d (omega arith),
      drop-append-le sealed_chunk_size c d (omega arith),
    )

pub parts_some : (key : Bytes) (i : ℕ) (c : Bytes) → 0 < length (parts key i (pieces c))
parts_some key i c = omega (arith, length_each (part key) i (pieces c), cut_some sealed_chunk_size [] c)

-- ---- one part more

pub salvaged_snoc : (xs : List Part) (y : Part) → salvaged_text (xs ++ y ∷ []) ≡ salvaged_text xs ++ y.text
salvaged_snoc xs y = rw (map-append, concat-append, append-nil)

losses_snoc : (i at j b : ℕ) (xs : List Part) (y : Part) → j ≡ i + length xs
    → b ≡ at + length (salvaged_text xs) → losses i at (xs ++ y ∷ [])
    ≡ losses i at xs ++ loss y.saved (record { chunk = j; start = b; len = length y.text })
losses_snoc i at j b [] y e f = grind (arith, append-nil)
losses_snoc i at j b (x ∷ xs) y e f =
    let bytes = length-append x.text (salvaged_text xs) in
    rw (losses_snoc (i + 1) (at + length x.text) j b xs y (omega arith) (omega (arith, f, bytes)))
    (sym (append_assoc (loss x.saved (record { chunk = i; start = at; len = length x.text }))
    (losses (i + 1) (at + length x.text) xs) (loss y.saved _)))

pub last_snoc : (xs : List Part) (y : Part) → last_saved (xs ++ y ∷ []) ≡ y.saved
last_snoc [] y = refl
last_snoc (x ∷ []) y = refl
last_snoc (x ∷ z ∷ xs) y = last_snoc (z ∷ xs) y

pub before_snoc : (before : Saved) (x : Part) (xs : List Part) (y : Part)
    → saved_before before (x ∷ (xs ++ y ∷ [])) ≡ last_saved (x ∷ xs)
before_snoc before x [] y = refl
before_snoc before x (z ∷ xs) y = before_snoc x.saved z xs y

pub first_snoc : (xs : List Part) (y : Part) → saved_before Chunk (xs ++ y ∷ []) ≡ last_saved xs
first_snoc [] y = refl
first_snoc (x ∷ xs) y = before_snoc Chunk x xs y

pub early_snoc : (i : ℕ) (before : Option ℕ) (xs : List Part) (y : Part)
    → latest_early i before (xs ++ y ∷ []) ≡ early_after y.saved (i + length xs) (latest_early i before xs)
early_snoc i before [] y = let none : i + 0 ≡ i = omega arith in rw none refl
early_snoc i before (x ∷ xs) y = grind (arith, early_snoc (i + 1) (early_after x.saved i before) xs y)

-- ---- what was reported

pub reports_none : (a : KnownLosses) → Reports (losses_of a a) []
reports_none None = tt
reports_none (Some past) = ap Some (sym (append-nil past))

pub reports_then : (a b c : KnownLosses) (xs ys : List LostChunk) → Reports (losses_of a b) xs
    → Reports (losses_of b c) ys → Reports (losses_of a c) (xs ++ ys)
reports_then None b c xs ys g h = tt
reports_then (Some past) b c xs ys g h = rw (g, append_assoc past xs ys) at h

-- ---- the next piece

-- the part for the first piece of the n bytes at the start of a buffer
pub first_saved : (key : Bytes) (i n : ℕ) {end len : ℕ} (bytes new : Bytes) {saved : Saved} → n ≤ length bytes
    → end ≡ min n sealed_chunk_size → end - 16 - padding saved ≡ len
    → part key i (nat_le n sealed_chunk_size) (take end bytes)
    ≡ record { text = take (end - 16 - padding saved) new; saved = saved }
    → first_part key i (take n bytes) ≡ record { text = take len new; saved = saved }
first_saved key i n bytes new {saved} le least text found =
    rw (length-take-le n bytes le, take_most sealed_chunk_size n bytes, ← least, found, text)

-- ---- the parts so far

-- The parts of the bytes read so far, which were written, and of which the lost chunks were
-- reported; `ahead` is what was read of the next piece.
pub record Salvaging (key : Bytes) (s : Salvaged) (ahead : Bytes) (from now : Seen) (old new : Known)
    (before after : KnownLosses) : Type 0 where
  pub done : List Part
  pub given : Bytes
  pub gave : Gave (flow from now) given
  pub reads : (d : Bytes) → parts key 0 (pieces (given ++ d)) ≡ done ++ parts key s.chunks (pieces (ahead ++ d))
  pub written : Appends old new (salvaged_text done)
  pub reported : Reports (losses_of before after) (losses 0 0 done)
  pub sum : s ≡ summary done
  pub full : s.bytes ≡ chunk_size * s.chunks
  pub lost_bound : s.lost ≤ s.chunks
  pub read : length given ≡ sealed_chunk_size * s.chunks + length ahead
  pub short : length ahead ≤ 1

pub salvaging_none : {key : Bytes} {ahead : Bytes} {from : Seen} {old : Known} {before : KnownLosses}
    → ahead ≡ [] → Salvaging key (summary []) ahead from from old old before before
salvaging_none {key} {old = old} {before} none = record {
  done = [];
  given = [];
  gave = gave_none;
  reads = λ d. rw none refl;
  written = Appends-nil old;
  reported = reports_none before;
  sum = refl;
  full = omega arith;
  lost_bound = omega arith;
  read = omega (arith, ap length none);
  short = omega (arith, ap length none);
}

loss_len : (s : Saved) (lost : LostChunk) → length (loss s lost) ≤ 1
loss_len Zeros lost = omega arith
loss_len s lost = omega arith

-- the summary of the parts so far and one more
snoc_summary : (done : List Part) (y : Part)
    → with_part (summary done) (length y.text) y.saved ≡ summary (done ++ y ∷ [])
snoc_summary done y =
    let s : Salvaged = summary done in
    let one : List LostChunk = loss y.saved (record { chunk = s.chunks; start = s.bytes; len = length y.text }) in
    let text = ap length (salvaged_snoc done y) ∙ length-append (salvaged_text done) y.text in
    let all = ap length (losses_snoc 0 0 s.chunks s.bytes done y (omega arith) (omega arith))
    ∙ length-append (losses 0 0 done) one in
    let n : s.chunks + 1 ≡ length (done ++ y ∷ []) = omega (arith, length-append done (y ∷ [])) in
    let zero : length done ≡ 0 + length done = omega arith in
    let early = ap (λ k. early_after y.saved k s.early) zero ∙ sym (early_snoc 0 None done y) in
    let before = first_snoc done y in
    let last = last_snoc done y in
    cc

-- ---- how saving ends

module _ {key : Bytes} {s : Salvaged} {ahead : Bytes} {from now : Seen} {old new : Known}
    {before after : KnownLosses} (o : Salvaging key s ahead from now old new before after) where
  chunks : s.chunks ≡ length o.done
  chunks = ap (λ (x : Salvaged). x.chunks) o.sum

  bytes : s.bytes ≡ length (salvaged_text o.done)
  bytes = ap (λ (x : Salvaged). x.bytes) o.sum

  first_parts : (d : Bytes) → take s.chunks (parts key 0 (pieces (o.given ++ d))) ≡ o.done
  first_parts d = ap (take s.chunks) (o.reads d)
      ∙ take_at o.done (parts key s.chunks (pieces (ahead ++ d))) s.chunks (sym chunks)

  -- there are more pieces than the limit allows
  pub saves_many : {max : ℕ} → s.chunks ≡ max → OfGiven (flow from now)
      (λ rest. SavesParts max (parts key 0 (pieces rest)) (move_of old new) (losses_of before after)
      (Err TooManyChunks))
  saves_many full = rw (← full) (of_more o.gave (λ d end.
      let more : List Part = parts key s.chunks (pieces (ahead ++ d)) in
      let some : 0 < length more = parts_some key s.chunks (ahead ++ d) in (
        omega (arith, ap length (o.reads d), length-append o.done more, chunks),
        rw (first_parts d) (o.written, o.reported),
      )))

  -- with too many chunks, saving ended at the first piece over the limit (`EndsAt`)
  pub ends_many : {max : ℕ} → s.chunks ≡ max → EndsAt max 0 (flow from now) (move_of old new) TooManyChunks
  ends_many full = record {
    piece = s.chunks;
    text = salvaged_text o.done;
    written = o.written;
    at = inr full;
    gave = (o.given, o.gave, omega (arith, o.read, o.short));
  }

  -- a read failed
  pub saves_read : (max : ℕ) {next : Seen} → GaveSome (flow now next) → OfGiven (flow from next)
      (λ rest. SavesParts max (parts key 0 (pieces rest)) (move_of old new) (losses_of before after) (Err Read))
  saves_read max some =
      of_then o.gave (of_any some (λ d. (s.chunks, rw (first_parts d) (o.written, o.reported)))) (λ d h. h)

-- ---- a piece more

module _ {key : Bytes} {s : Salvaged} {held : Bytes} {n : ℕ} {buf : Bytes} {from now next : Seen} {old mid : Known}
    {before said : KnownLosses} (o : Salvaging key s held from now old mid before said)
    (r : ReadsAhead sealed_chunk_size held n buf (flow now next)) (size : length buf ≡ chunk_buf_size) where
  piece_len : length (held ++ r.given) ≡ n
  piece_len = ap length (sym r.is) ∙ length-take-le n buf (omega (arith, r.room))

  -- the part of the piece that was read, whatever comes
  part_read : (d : Bytes) → (IsAtEnd next.to_come → d ≡ []) → (more : List Part)
      × (parts key s.chunks (pieces ((held ++ r.given) ++ d)) ≡ first_part key s.chunks (held ++ r.given) ∷ more)
  part_read d end = elim (cases_lt sealed_chunk_size n) [
    | inl lt ↦ (
      parts key (s.chunks + 1) (pieces (drop sealed_chunk_size (held ++ r.given) ++ d)),
      parts_next key s.chunks (held ++ r.given) d (omega (arith, piece_len)),
    )
    | inr le ↦ (
      [],
      rw (end (r.end (omega arith)), append-nil (held ++ r.given))
          (parts_last key s.chunks (held ++ r.given) (omega (arith, piece_len))),
    )
  ]

  -- the parts so far, and then those of this piece and the bytes to come
  reads_piece : (d : Bytes) → parts key 0 (pieces ((o.given ++ r.given) ++ d))
      ≡ o.done ++ parts key s.chunks (pieces ((held ++ r.given) ++ d))
  reads_piece d = rw (append_assoc o.given r.given d, append_assoc held r.given d) (o.reads (r.given ++ d))

  -- a write failed: the pieces up to and including its own were read, and at most one more byte
  pub ends_write : (text : Bytes) {new : Known} → WritesPart (move_of mid new) text → (max : ℕ)
      → EndsAt max 0 (flow from next) (move_of old new) Write
  ends_write text {new} part max = record {
    piece = s.chunks;
    text = salvaged_text o.done ++ take part.0 text;
    written = Appends-trans old mid new (salvaged_text o.done) (take part.0 text) o.written part.1;
    at = inl (refl, omega (arith, o.full, bytes o, length-append (salvaged_text o.done) (take part.0 text)));
    gave = (
      o.given ++ r.given,
      gave_then o.gave r.gave,
      omega (arith, o.read, r.room, piece_len, length-append held r.given, length-append o.given r.given),
    );
  }

  module _ {y : Part} (is : first_part key s.chunks (take n buf) ≡ y) where
    found : first_part key s.chunks (held ++ r.given) ≡ y
    found = rw r.is at is

    -- a write failed
    pub saves_write : (max : ℕ) (new : Known) → WritesPart (move_of mid new) y.text → OfGiven (flow from next)
        (λ rest. SavesParts max (parts key 0 (pieces rest)) (move_of old new) (losses_of before said) (Err Write))
    saves_write max new wrote = of_more (gave_then o.gave r.gave) (λ d end.
        let (more, first) = part_read d end in
        let all : parts key 0 (pieces ((o.given ++ r.given) ++ d)) ≡ o.done ++ y ∷ more =
        reads_piece d ∙ ap (λ ps. o.done ++ ps) (first ∙ ap (λ p. p ∷ more) found) in
        let done_parts = take_at o.done (y ∷ more) s.chunks (sym (chunks o)) in
        let next_parts = drop_at o.done (y ∷ more) s.chunks (sym (chunks o)) in (
          s.chunks,
          wrote.0,
          rw (all, done_parts, next_parts, append-nil y.text)
              (Appends-trans old mid new (salvaged_text o.done) (take wrote.0 y.text) o.written wrote.1),
          rw (all, done_parts) o.reported,
        ))

    -- the piece was written, and reported if it is lost
    module _ {t : Salvaged} (new : Known) (after : KnownLosses) {len : ℕ} (wide : length y.text ≡ len)
        (put : Appends mid new y.text)
        (lost : Reports (losses_of said after) (loss y.saved (record { chunk = s.chunks; start = s.bytes; len = len })))
        (sum : t ≡ with_part s len y.saved) where
      written_next : Appends old new (salvaged_text (o.done ++ y ∷ []))
      written_next = rw (salvaged_snoc o.done y)
          (Appends-trans old mid new (salvaged_text o.done) y.text o.written put)

      reported_next : Reports (losses_of before after) (losses 0 0 (o.done ++ y ∷ []))
      reported_next =
          rw (losses_snoc 0 0 s.chunks s.bytes o.done y (omega (arith, chunks o)) (omega (arith, bytes o)), wide)
          (reports_then before said after (losses 0 0 o.done) (loss y.saved _) o.reported lost)

      summed : t ≡ summary (o.done ++ y ∷ [])
      summed = rw (sum, ← wide, o.sum) (snoc_summary o.done y)

      -- the last piece was saved
      pub saves_last : {max : ℕ} → n ≤ sealed_chunk_size → s.chunks < max → OfGiven (flow from next)
          (λ rest. SavesParts max (parts key 0 (pieces rest)) (move_of old new) (losses_of before after) (Ok t))
      saves_last low within =
          let count : length (o.done ++ y ∷ []) ≡ length o.done + 1 = length-append o.done (y ∷ []) in
          of_ended (gave_then o.gave r.gave) (r.end (omega arith))
          (rw (o.reads r.given, parts_last key s.chunks (held ++ r.given) (omega (arith, piece_len)), found) (
            omega (arith, chunks o),
            rw (take_all (length (o.done ++ y ∷ [])) (o.done ++ y ∷ []) (omega arith)) (written_next, reported_next),
            summed,
          ))

      -- a piece with more after it was saved
      pub salvaging_more : {ahead : Bytes} → sealed_chunk_size < n → len ≡ chunk_size
          → ahead ≡ drop sealed_chunk_size buf → Salvaging key t ahead from next old new before after
      salvaging_more {ahead} high whole rest =
          let c : Bytes = held ++ r.given in
          let full : buf ≡ c = sym (take_all n buf (omega arith)) ∙ r.is in
          let tail : ahead ≡ drop sealed_chunk_size c = rest ∙ ap (drop sealed_chunk_size) full in
          let one_ahead : length ahead ≡ length c - sealed_chunk_size = ap length tail
          ∙ length-drop sealed_chunk_size c in
          let up : t.chunks ≡ s.chunks + 1 = ap (λ (x : Salvaged). x.chunks) sum in
          let sized = ap (λ (x : Salvaged). x.bytes) sum in
          let counted = ap (λ (x : Salvaged). x.lost) sum in
          let one = loss_len y.saved (record { chunk = s.chunks; start = s.bytes; len = len }) in
          record {
            done = o.done ++ y ∷ [];
            given = o.given ++ r.given;
            gave = gave_then o.gave r.gave;
            reads = λ d. reads_piece d
                ∙ ap (λ ps. o.done ++ ps) (parts_next key s.chunks c d (omega (arith, piece_len)))
                ∙ rw (found, tail, up, append_assoc o.done (y ∷ []) _);
            written = written_next;
            reported = reported_next;
            sum = summed;
            full = omega (arith, o.full, whole, sized, up);
            lost_bound = omega (arith, o.lost_bound, counted, up, one);
            read = omega (
              arith,
              o.read,
              piece_len,
              one_ahead,
              up,
              length-append held r.given,
              length-append o.given r.given,
            );
            short = omega (arith, piece_len, one_ahead, r.room);
          }

-- ---- a payload

-- the nonce is cut short, or was not read
pub nonce_salvages : (k : FileKey) (max : ℕ) {from mid : Seen} (old : Known) (lost : KnownLosses) (fault : StreamFault)
    → GivesNonce (flow from mid) (Err fault)
    → Salvages k max (flow from mid) (move_of old old) (losses_of lost lost) (Err fault)
nonce_salvages k max {from} {mid} old lost Read h =
    of_any h (λ c. (0, (Appends-nil old, reports_none lost)))
nonce_salvages k max {from} {mid} old lost NonceTruncated h =
    of_map h.1 (λ c less. (less, (Appends-nil old, reports_none lost)))
nonce_salvages k max old lost fault h = absurd (cc)

-- the bytes read, the nonce included
pub payload_ends : (max : ℕ) {nonce : Bytes} {from mid : Seen} (to : Seen) (old new : Known)
    (r : Result Salvaged StreamFault) → Gave (flow from mid) nonce → length nonce ≡ 16
    → IfErr r (λ f. (f ≡ Read) ⊎ EndsAt max 0 (flow mid to) (move_of old new) f)
    → IfErr r (EndsSaving max (flow from to) (move_of old new))
payload_ends max to old new (Ok s) gave size h = tt
payload_ends max to old new (Err Read) gave size h = tt
payload_ends max to old new (Err NonceTruncated) gave size h = tt
payload_ends max to old new (Err Memory) gave size h = tt
payload_ends max to old new (Err fault) gave size (inl e) = absurd (cc)
payload_ends max {nonce} {from} {mid} to old new (Err fault) gave size (inr e) = grind (arith, gave_more from mid to 16 (0 + (sealed_chunk_size * (e.piece + 1) + 1)) (nonce, gave, omega (arith, size)) e.gave)

pub nonce_ends : (max : ℕ) (from mid : Seen) (old : Known) (fault : StreamFault)
    → GivesNonce (flow from mid) (Err fault) → EndsSaving max (flow from mid) (move_of old old) fault
nonce_ends a b c d e f = grind arith

-- the nonce, then the pieces
pub payload_salvages : (k : FileKey) (max : ℕ) {nonce key : Bytes} {from mid to : Seen} (old new : Known)
    (before after : KnownLosses) (r : Result Salvaged StreamFault) → Gave (flow from mid) nonce → length nonce ≡ 16
    → key ≡ payload_key k nonce
    → OfGiven (flow mid to) (λ rest. SavesParts max (parts key 0 (pieces rest)) (move_of old new)
    (losses_of before after) r) → Salvages k max (flow from to) (move_of old new) (losses_of before after) r
payload_salvages k max {nonce} {key} {from} {mid} {to} old new before after r gave size is h =
    of_then gave h (λ c s.
    let l : length (nonce ++ c) ≡ length nonce + length c = length-append nonce c in
    let same : parts key 0 (pieces c) ≡ payload_parts k (nonce ++ c) =
    rw (take_at nonce c 16 size, drop_at nonce c 16 size, is) in
    whole (nonce ++ c) (omega arith) r (rw same at s))
  where
    whole : (c : Bytes) → 16 ≤ length c → (q : Result Salvaged StreamFault)
        → SavesParts max (payload_parts k c) (move_of old new) (losses_of before after) q
        → SavesPayload k max c (move_of old new) (losses_of before after) q
    whole c long (Ok t) s = (long, s)
    whole c long (Err Read) s = s
    whole c long (Err Write) s = (long, s)
    whole c long (Err TooManyChunks) s = (long, s)
    whole c long (Err fault) s = absurd s
