-- Calls on one reader of ranges, one after another.
use Rattle.round_trip.proofs.Common.{◌≡◌, ◌∙◌, ℕ, List, [], ◌∷◌, ◌++◌, ◌+◌, ◌-◌, ◌*◌, ◌/◌, ◌<◌, ◌≤◌, length, take, drop, get_or, set, ap, sym, arith, refl, inl, inr, Option, Some, None, Result, Ok, Err, FoldsTo, zip, false≢true, FoldsTo-push, drop-drop, drop-set-lt, drop_more, length-take-le, take_more, take_more_set, StreamFault, Layout, opens_there, slice_there, Agrees, Fills, IsThere, PieceOpens, RangeParts, RangeState, ReadsRange, range_len, source_opening, chunk_size, Bytes, Known, Answers, FillsKnown, Touches}

-- a piece that was read opens to what the known contents say
known_opens : {gave : ℕ → ℕ → Type 0} {found : Option ℕ} (told : Known) (layout : Layout) (i : ℕ) (o : Known)
    → ((b : Bytes) → told ≡ Some b → Agrees b gave found) → PieceOpens gave layout i o → IsThere told layout
    → source_opening told layout i ≡ o
known_opens None layout i o agrees opens there = absurd (false≢true there.known)
known_opens (Some b) layout i o agrees opens there = opens_there b layout i o (agrees b refl) there opens

known_fills : {gave : ℕ → ℕ → Type 0} {found : Option ℕ} (told : Known) (layout : Layout) (at n : ℕ) (old new : Bytes)
    → ((b : Bytes) → told ≡ Some b → Agrees b gave found) → n ≤ length new → Fills gave layout at n old new
    → FillsKnown told layout at n old new
known_fills None layout at n old new agrees room fills = (fills.rest, λ there. absurd (false≢true there.known))
known_fills (Some b) layout at n old new agrees room fills =
    (fills.rest, λ there. slice_there b old new layout at n (agrees b refl) there room fills)

-- the result of a call, by the reader's state before the first call
pub answers_first : {D : Type 0} {told : D → Known} {given failed : D → ℕ} {gave : D → (at byte : ℕ) → Type 0}
    {t : Known} (s : RangeState) {found : Option ℕ} (at : ℕ) {old new : RangeParts D} (r : Result ℕ StreamFault)
    → ((b : Bytes) → told new.source ≡ Some b → Agrees b (gave new.source) found)
    → told old.source ≡ t → old.chunks.layout ≡ s.layout → length new.buf ≡ length old.buf
    → ReadsRange told given failed gave at old new r → Answers t s at old.buf new.buf r
answers_first {gave = gave} {t} s {found} at {old} {new} (Ok n) agrees stay same size reads =
    let known : (b : Bytes) → t ≡ Some b → Agrees b (gave new.source) found =
    λ b is. agrees b (reads.stay ∙ stay ∙ is) in
    let fills = rw same at reads.filled in (
      rw same at reads.number,
      known_fills t s.layout at n old.buf new.buf known (omega (arith, size, reads.number)) fills,
      λ i (k, within, at_i) there. let (text, opens, byte) = fills.bytes k within in
          rw (← at_i, known_opens t s.layout ((at + k) / chunk_size) (Some text) known opens there) refl,
    )
answers_first {gave = gave} {t} s {found} at {old} {new} (Err fault) agrees stay same size reads =
    let known : (b : Bytes) → t ≡ Some b → Agrees b (gave new.source) found =
    λ b is. agrees b (reads.stay ∙ stay ∙ is) in
    let stop = reads.stop in
    let skip : ℕ = chunk_size * stop.chunk - at in
    let touches : Touches at (range_len old.chunks at (length old.buf)) stop.chunk =
    (skip, omega (arith, stop.some, stop.from, stop.to), omega (arith, stop.some, stop.from, stop.to)) in (
      stop.chunk,
      rw same at touches,
      known_fills t s.layout at skip old.buf new.buf known (omega (arith, stop.to, size)) (rw same at stop.filled),
      elim stop.lost [
        | inl read ↦ inl read
        | inr (bad, none) ↦ inr (bad, known_opens t s.layout stop.chunk None known (rw same at none))
      ],
    )

zip_push : {X Y : Type 0} (xs : List X) (ys : List Y) (x : X) (y : Y) → length ys ≡ length xs
    → zip (xs ++ x ∷ []) (ys ++ y ∷ []) ≡ zip xs ys ++ (x, y) ∷ []
zip_push [] [] x y same = refl
zip_push (a ∷ xs) (b ∷ ys) x y same = ap (λ ps. (a, b) ∷ ps) (zip_push xs ys x y (omega (arith, same)))
zip_push xs ys x y same = absurd (omega (arith, same))

-- the first i + 1 calls, from the first i calls and the next one
pub calls_more : {P X : Type 0} (R : P → X × X → P → Type 0) (p : P) {q u : P} (xs ys : List X) (i : ℕ) (d : X) {y : X}
    → i < length xs → length ys ≡ length xs → drop i ys ≡ drop i xs
    → FoldsTo R p (zip (take i xs) (take i ys)) q → R q (get_or ys i d, y) u
    → FoldsTo R p (zip (take (i + 1) xs) (take (i + 1) (set ys i y))) u
calls_more R p {q} {u} xs ys i d {y} lt same rest so_far step =
    let lt_ys : i < length ys = omega (arith, lt, same) in
    let here : get_or xs i d ≡ get_or ys i d =
    ap (λ l. get_or l 0 d) (sym (drop_more xs i d lt) ∙ sym rest ∙ drop_more ys i d lt_ys) in
    let fronts : length (take i ys) ≡ length (take i xs) =
    length-take-le i ys (omega (arith, lt_ys)) ∙ sym (length-take-le i xs (omega (arith, lt))) in
    let both = zip_push (take i xs) (take i ys) (get_or ys i d) y fronts in
    rw (take_more xs i d lt, take_more_set ys i y lt_ys, here, both)
    (FoldsTo-push R p (zip (take i xs) (take i ys)) q (get_or ys i d, y) u so_far step)

pub rest_more : {X : Type 0} (xs ys : List X) (i : ℕ) (y : X) → drop i ys ≡ drop i xs
    → drop (i + 1) (set ys i y) ≡ drop (i + 1) xs
rest_more xs ys i y rest =
    drop-set-lt (i + 1) ys i y (omega arith) ∙ sym (drop-drop 1 i ys) ∙ ap (drop 1) rest ∙ drop-drop 1 i xs
