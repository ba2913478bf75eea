-- What is saved stands at its offset.
use Rattle.age_stream.proofs.Common.{◌≡◌, ◌∙◌, ◌++◌, ◌∷◌, ◌+◌, ◌-◌, ◌*◌, ◌/◌, ◌%◌, ◌<◌, ℕ, List, [], length, take, drop, get_or, slice_get, slice_index, ap, sym, arith, refl, Bool, false, not, None, Some, zero, suc, sum_by, none-some, get_or_from_slice_get, slice_get_within, length-replicate, get_or_append_left, get_or-append-add, sum_by-cons, Bytes, FileKey, chunk_size, sealed_chunk_size, length-sealed_text, opened_is, chunk_nonce, is_end, payload_key, pieces, piece_opening, Part, in_place, lost_part, out_of_place, part, parts, payload_parts, salvaged_text, IsSlice, opening, openings, length-append, inl, inr, if◌then◌else◌, true, nat_eq, nat_le, nat_lt, ◌&&◌, length-take-le, Early, LastChunk, Nothing, Zeros, closed_part, last_saved, padded_part, padding, max_padding, cases_Option}
use Rattle.age_stream.proofs.CuttingLemmas.{AtMost, cut_at_most}
use Rattle.age_stream.proofs.SalvageLemmas.{part-opened, part_cases}
use Rattle.age_stream.proofs.SliceLemmas.{slice_of}

opened_len : (key : Bytes) (i : ℕ) (last : Bool) (c t : Bytes) → piece_opening key i last c ≡ Some t
    → length c ≡ length t + 16
opened_len key i last c t is = grind (arith, opened_is key (chunk_nonce i last) [] c t, length-sealed_text key (chunk_nonce i last) [] t)

-- the text of a part and its padding together have as many bytes as the piece without its tag
abbrev Fills : (c : Bytes) (p : Part) → Type 0
Fills c p = length p.text + padding p.saved ≡ length c - 16

lost_full : (c : Bytes) → padding (lost_part c).saved ≡ 0
lost_full c = grind arith

lost_fills : (c : Bytes) → Fills c (lost_part c)
lost_fills c = omega (arith, lost_full c, length-replicate {A = ℕ} (length c - 16) 0)

padded_fills : (key : Bytes) (i k n : ℕ) (c : Bytes) → Fills c (padded_part key i k n c)
unfolding padded_part
padded_fills key i k zero c = lost_fills c
padded_fills key i k (suc n) c = elim (cases_Option (piece_opening key i true (take (length c - k) c))) [
  | inl (t, is) ↦
      let l = opened_len key i true (take (length c - k) c) t is in
      rw is (omega (arith, l, length-take-le (length c - k) c (omega arith)))
  | inr none ↦ rw none (padded_fills key i (k + 1) n c)
]

closed_fills : (key : Bytes) (i : ℕ) (last : Bool) (c : Bytes) → Fills c (closed_part key i last c)
closed_fills key i false c = lost_fills c
closed_fills key i true c = padded_fills key i 1 max_padding c

in_place_full : (i : ℕ) (last : Bool) (len : ℕ) → padding (in_place i last len) ≡ 0
in_place_full a b c = grind (arith, nat_lt)

out_full : (last : Bool) → padding (out_of_place last) ≡ 0
out_full true = refl
out_full false = refl

pub part_fills : (key : Bytes) (i : ℕ) (last : Bool) (c : Bytes) → Fills c (part key i last c)
part_fills key i last c = elim (part_cases key i last c) [
  | inl (t, opens, is) ↦ rw is (omega (arith, opened_len key i last c t opens, in_place_full i last (length c)))
  | inr (inl (t, opens, is)) ↦ rw is (omega (arith, opened_len key i (not last) c t opens, out_full last))
  | inr (inr is) ↦ rw is (closed_fills key i last c)
]

-- only the last piece may be padded
inner_full : (key : Bytes) (i : ℕ) (c : Bytes) → padding (part key i false c).saved ≡ 0
inner_full key i c = grind (arith, part_cases, lost_full)

pub part_len : (key : Bytes) (i : ℕ) (c : Bytes) → length (part key i false c).text ≡ length c - 16
part_len key i c = omega (arith, part_fills key i false c, inner_full key i c)

pub salvaged_len : (key : Bytes) (i : ℕ) (cs : List Bytes)
    → length (salvaged_text (parts key i cs)) + padding (last_saved (parts key i cs))
    ≡ sum_by (λ piece. length piece - 16) cs
salvaged_len key i [] = refl
salvaged_len key i (c ∷ []) = grind (arith, length-append (part key i true c).text [], part_fills key i true c)
salvaged_len key i (c ∷ d ∷ cs) =
    let text = length-append (part key i false c).text (salvaged_text (parts key (i + 1) (d ∷ cs))) in
    let sum = sum_by-cons (λ piece. length piece - 16) c (d ∷ cs) in
    omega (arith, text, sum, part_len key i c, salvaged_len key (i + 1) (d ∷ cs))

-- byte r of the text to which piece n of a list opens, at its offset in the saved text
record IsSavedAt (all text : Bytes) (n r : ℕ) : Type 0 where
  pub within : chunk_size * n + r < length all
  pub is : get_or all (chunk_size * n + r) 0 ≡ get_or text r 0

saved_at : (key : Bytes) (i n r : ℕ) (cs : List Bytes) (text : Bytes) → AtMost sealed_chunk_size cs
    → get_or (openings key i cs) n None ≡ Some text → r < length text
    → IsSavedAt (salvaged_text (parts key i cs)) text n r
saved_at key i n r [] text full is lt = absurd (none-some text is)
saved_at key i zero r (c ∷ cs) text full is lt = grind (arith, length-append, part-opened, get_or_append_left)
saved_at key i (suc n) r (c ∷ []) text full is lt = absurd (none-some text is)
saved_at key i (suc n) r (c ∷ d ∷ ds) text full is lt = grind (arith, length-append, part_len, get_or-append-add, saved_at key (i + 1) n r (d ∷ ds) text full.1 is lt)

byte_saved : (key rest text : Bytes) (x v : ℕ) → opening key rest (x / chunk_size) ≡ Some text
    → slice_get text (x % chunk_size) ≡ Some v → (x < length (salvaged_text (parts key 0 (pieces rest)))) × (v
    ≡ get_or (salvaged_text (parts key 0 (pieces rest))) x 0)
byte_saved key rest text x v opens at =
    let r : ℕ = x % chunk_size in
    let n : ℕ = x / chunk_size in
    let h = saved_at key 0 n r (pieces rest) text (cut_at_most sealed_chunk_size rest (omega arith)) opens
    (slice_get_within text r v at) in
    let sum : chunk_size * n + r ≡ x = omega arith in
    grind (arith, get_or_from_slice_get)

pub slice_saved : (k : FileKey) (text xs : Bytes) (at : ℕ) → IsSlice (payload_key k (take 16 text)) (drop 16 text) at xs
    → xs ≡ take (length xs) (drop at (salvaged_text (payload_parts k text)))
slice_saved k text xs at s = slice_of xs (salvaged_text (payload_parts k text)) at (λ j lt.
    let z = s j lt in
    byte_saved (payload_key k (take 16 text)) (drop 16 text) z.0 (at + j) (slice_index xs j) z.1 z.2)
