-- The steps of the loop of `read_range`, the chunk kept, and ranges of known contents.
use Rattle.age_stream.proofs.Common.{◌≡◌, ℕ, ◌++◌, ◌+◌, ◌-◌, ◌*◌, ◌≤◌, length, take, drop, ◌∙◌, sym, ap, arith, Option, Some, length-take-le, drop-drop, drop_at, Bytes, Known, Layout, chunk_size, length-append, ◌/◌, ◌<◌, slice_index, subst, get_or-take, sealed_chunk_size, StaysGiven, IsSound, IsVerifiedByte, Agrees, HasPlain, IsThere, PieceOpens, RangeState, kept_text, chunk_len, append_assoc, inl, inr, cases_lt, ◌%◌, slice_get, get_or_append_left, get_or-append-add, get_or-drop, slice_get-get_or}
use Rattle.age_stream.specs.Ranges.{Fills, end_of}
use Rattle.age_stream.proofs.LoadLemmas.{opens_there}

pub drop_past : (a b c : Bytes) {n : ℕ} → n ≡ length a + length b → drop n (a ++ (b ++ c)) ≡ c
drop_past a b c {n} is = rw (← append_assoc a b c) (drop_at (a ++ b) c n (omega (arith, is, length-append a b)))

pub rest_on : (old new first : Bytes) (done n : ℕ) → drop done old ≡ drop done first
    → drop (done + n) new ≡ drop (done + n) old → drop (done + n) new ≡ drop (done + n) first
rest_on old new first done n so_far e = e ∙ sym (drop-drop n done old) ∙ ap (drop n) so_far ∙ drop-drop n done first

-- a piece that opens, or does not, stays so after more reads
pub opens_stays : {old new : ℕ → ℕ → Type 0} {layout : Layout} {i : ℕ} {o : Known} → StaysGiven old new
    → PieceOpens old layout i o → PieceOpens new layout i o
opens_stays {layout = layout} {i} stays v = grind arith

pub byte_stays : (old new : ℕ → ℕ → Type 0) (layout : Layout) (at byte : ℕ) → StaysGiven old new
    → IsVerifiedByte old layout at byte → IsVerifiedByte new layout at byte
byte_stays old new layout at byte stays v = (v.0, opens_stays stays v.1, v.2)

-- the text of the kept chunk is what its piece opens to
pub kept_opens : {gave : ℕ → ℕ → Type 0} {size : Option ℕ} (s : RangeState) (layout : Layout) (i : ℕ) (text : Bytes)
    → s.layout ≡ layout → s.index ≡ Some i → text ≡ kept_text s i → IsSound gave size s
    → PieceOpens gave layout i (Some text)
kept_opens s layout i text same at is sound = rw (← same, is) (sound.keeps i at)

-- a reader that keeps the last chunk, opened from its piece, is sound
pub keeps_last : {gave : ℕ → ℕ → Type 0} {layout : Layout} {size : Option ℕ} (opened : ℕ) {items new : Bytes}
    → items ≡ new → size ≡ Some (end_of layout)
    → PieceOpens gave layout (layout.count - 1) (Some (take (chunk_len layout.plain (layout.count - 1)) new))
    → IsSound gave size (record { layout = layout; index = Some (layout.count - 1); buf = items; opened = opened })
keeps_last {gave} {layout} opened {new} same end v = grind arith

-- with the bytes of one more chunk copied, all bytes so far are verified
pub verified_on : (old_read new_read : ℕ → ℕ → Type 0) (layout : Layout) (text old new : Bytes) (at done i skip n : ℕ)
    → StaysGiven old_read new_read → at + done ≡ chunk_size * i + skip → done ≤ length old → skip + n ≤ length text
    → length text ≤ chunk_size → PieceOpens new_read layout i (Some text)
    → ((k : ℕ) → k < done → IsVerifiedByte old_read layout (at + k) (slice_index old k))
    → take (done + n) new ≡ take done old ++ take n (drop skip text)
    → (k : ℕ) → k < done + n → IsVerifiedByte new_read layout (at + k) (slice_index new k)
verified_on old_read new_read layout text old new at done i skip n stays pos le within size verified so_far is k lt =
    let xs : Bytes = take done old in
    let ys : Bytes = take n (drop skip text) in
    let a : length xs ≡ done = length-take-le done old le in
    let whole : slice_index new k ≡ slice_index (xs ++ ys) k =
    sym (get_or-take (done + n) new k 0 lt) ∙ ap (λ z. slice_index z k) is in
    elim (cases_lt k done) [
      | inl before ↦
          let value =
          whole ∙ get_or_append_left xs ys 0 k (omega (arith, a, before)) ∙ get_or-take done old k 0 before in
          subst (IsVerifiedByte new_read layout (at + k)) (sym value)
          (byte_stays old_read new_read layout (at + k) (slice_index old k) stays (so_far k before))
      | inr ge ↦
          let j : ℕ = k - done in
          let sum : k ≡ length xs + j = omega (arith, a, ge) in
          let here : i ≡ (at + k) / chunk_size = omega (arith, pos, ge, lt, within, size) in
          let there : (at + k) % chunk_size ≡ skip + j = omega (arith, pos, ge, lt, within, size) in
          let inside : j < n = omega (arith, ge, lt) in
          let value : slice_index new k ≡ slice_index text (skip + j) =
          whole ∙ ap (slice_index (xs ++ ys)) sum ∙ get_or-append-add xs ys j 0
          ∙ get_or-take n (drop skip text) j 0 inside ∙ get_or-drop skip text j 0 in (
            text,
            subst (λ c. PieceOpens new_read layout c (Some text)) here verified,
            ap (slice_get text) there ∙ slice_get-get_or text (skip + j) 0 (omega (arith, inside, within))
                ∙ ap Some (sym value),
          )
    ]

-- what a range returned is a part of the known plaintext
pub slice_there : (b old new : Bytes) {gave : ℕ → ℕ → Type 0} {found : Option ℕ} (layout : Layout) (at n : ℕ)
    → Agrees b gave found → IsThere (Some b) layout → n ≤ length new → Fills gave layout at n old new
    → HasPlain (Some b) layout at (take n new)
slice_there b old new layout at n agrees there room fills k lt =
    let within : k < n = omega (arith, lt, length-take-le n new room) in
    let (text, opens, byte) = fills.bytes k within in (
      text,
      opens_there b layout ((at + k) / chunk_size) (Some text) agrees there opens,
      byte ∙ ap Some (sym (get_or-take n new k 0 within)),
    )
