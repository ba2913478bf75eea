-- Salvaging saves the plaintext of a reading.
use Rattle.age_stream.proofs.Common.{nat_le, ◌≡◌, ◌↔◌, ◌∙◌, ◌++◌, ◌∷◌, ◌+◌, ◌-◌, ◌<◌, ◌≤◌, ◌&&◌, ℕ, List, [], length, take, drop, ap, sym, arith, append_assoc, refl, subst, inl, inr, Bool, true, false, Option, None, Some, Ok, cond, suc, nat_lt, nat_eq, cases_lt, le-ltb, lt-ltb, lt-leb, nat_tests, take_all, Bytes, FileKey, StreamFault, sealed_chunk_size, length-sealed_text, opened_is, Saved, Chunk, Early, LastChunk, chunk_nonce, is_end, payload_key, pieces, Reading, first_fault, plaintext_of, outcome, outcomes, payload_reading, piece_opening, reading_from, whole, Part, early_after, in_place, is_whole, is_whole_to, last_saved, latest_early, losses, lost_part, part, parts, payload_parts, salvaged_text, summary, cases_Bool, nil_from_length, zero, Padded, padded_part, max_padding, cases_Option}
use Rattle.age_stream.proofs.CuttingLemmas.{AtMost, cut_at_most}
use Rattle.age_stream.proofs.PayloadLemmas.{opens_first, opens_outcome, outcome_opens, result_cases}
use Rattle.age_stream.proofs.ReadingLemmas.{cut_some}
use Rattle.age_stream.proofs.PayloadLemmas.{length_each}
use Rattle.age_stream.proofs.SalvageLemmas.{part-opened, part_cases}

abbrev text_part : Bool → Bytes → Part
text_part last text = record { text = text; saved = cond last LastChunk Chunk }

-- a piece that a reading opens is saved
opened-part : (key : Bytes) (max i : ℕ) (last : Bool) (c t : Bytes) → outcome key max i last c ≡ Ok t
    → part key i last c ≡ text_part last t
opened-part key max i last c t h = grind (arith, outcome_opens key max i last c t h, length-sealed_text key (chunk_nonce i last) [] t, opened_is key (chunk_nonce i last) [] c t)

-- what is saved begins with the text before the first fault
pub plaintext_saved : (key : Bytes) (max i : ℕ) (cs : List Bytes)
    → (rest : Bytes) × (salvaged_text (take (max - i) (parts key i cs)) ≡ plaintext_of (outcomes key max i cs) ++ rest)
plaintext_saved key max i [] = ([], ap salvaged_text (take_all (max - i) [] (omega arith)))
plaintext_saved key max i (c ∷ cs) = elim (result_cases (outcome key max i (is_end cs) c)) [
  | inr (f, is) ↦ (salvaged_text (take (max - i) (parts key i (c ∷ cs))), rw is refl)
  | inl (t, is) ↦
      let o = outcome_opens key max i (is_end cs) c t is in
      let n : max - i ≡ suc (max - (i + 1)) = omega (arith, o.within) in
      let (rest, same) = plaintext_saved key max (i + 1) cs in (
        rest,
        rw (is, n, opened-part key max i (is_end cs) c t is)
            (ap (λ x. t ++ x) same ∙ sym (append_assoc t (plaintext_of (outcomes key max (i + 1) cs)) rest)),
      )
]

-- these parts, within the limit, join to the text; none is lost or early, the last is `LastChunk`
pub record AllSaved (max i : ℕ) (ps : List Part) (text : Bytes) : Type 0 where
  pub is : salvaged_text ps ≡ text
  pub none : (at : ℕ) → losses i at ps ≡ []
  pub early : latest_early i None ps ≡ None
  pub ends : last_saved ps ≡ LastChunk
  pub within : i + length ps ≤ max

all_saved : (key : Bytes) (max i : ℕ) (cs : List Bytes) → 0 < length cs → first_fault (outcomes key max i cs) ≡ None
    → AllSaved max i (parts key i cs) (plaintext_of (outcomes key max i cs))
all_saved key max i [] some e = absurd (omega arith)
all_saved key max i (c ∷ []) some e =
    let (t, is, none) = opens_first key max i c [] e in
    let o = outcome_opens key max i true c t is in
    rw (is, opened-part key max i true c t is)
    (record { is = refl; none = λ at. refl; early = refl; ends = refl; within = omega (arith, o.within) })
all_saved key max i (c ∷ d ∷ ds) some e =
    let (t, is, none) = opens_first key max i c (d ∷ ds) e in
    let all = all_saved key max (i + 1) (d ∷ ds) (omega arith) none in
    rw (is, opened-part key max i false c t is) (record {
      is = ap (λ x. t ++ x) all.is;
      none = λ at. all.none (at + length t);
      early = all.early;
      ends = all.ends;
      within = omega (arith, all.within);
    })

-- ---- parts that are all in their places

-- once there is an early chunk, there is a latest one
after_some : (s : Saved) (i j : ℕ) → (k : ℕ) × (early_after s i (Some j) ≡ Some k)
after_some Early i j = (i, refl)
after_some s i j = (j, refl)

early_stays : (i j : ℕ) (ps : List Part) → latest_early i (Some j) ps ≡ None → ⊥
early_stays i j [] e = cc
early_stays i j (p ∷ ps) e = let (k, is) = after_some p.saved i j in early_stays (i + 1) k ps (rw is at e)

zeros_lost : (i at : ℕ) (c : Bytes) (ps : List Part) → 16 < length c → losses i at (lost_part c ∷ ps) ≡ [] → ⊥
zeros_lost i at c ps lt e = let some = rw (lt-leb (length c) 16 lt) at e in cc

some_text : (i len : ℕ) → in_place i true len ≡ LastChunk → 0 < i → 16 ≤ len → 16 < len
some_text i len is pos ge = grind (arith, cases_Bool, nat_lt, nat_tests)

-- a piece in its place has no fault
place_reads : (key : Bytes) (max i : ℕ) (last : Bool) (c t : Bytes) → i < max → piece_opening key i last c ≡ Some t
    → (last ≡ true → in_place i last (length c) ≡ LastChunk) → outcome key max i last c ≡ Ok t
place_reads key max i last c t within is place =
    let so : c ≡ _ = sym ((opened_is key (chunk_nonce i last) [] c t).0 is) in
    let len = ap length so ∙ length-sealed_text key (chunk_nonce i last) [] t in
    grind (arith, opens_outcome, some_text)

lost_last : (piece : Bytes) → (lost_part piece).saved ≡ LastChunk → ⊥
lost_last piece e = grind (arith, cases_Bool)

padded_last : (key : Bytes) (i k n : ℕ) (c : Bytes) → (padded_part key i k n c).saved ≡ LastChunk → ⊥
unfolding padded_part
padded_last key i k zero c e = lost_last c e
padded_last key i k (suc n) c e = elim (cases_Option (piece_opening key i true (take (length c - k) c))) [
  | inl (t, is) ↦ let no : Padded k ≡ LastChunk = rw is at e in cc
  | inr none ↦ padded_last key i (k + 1) n c (rw none at e)
]

all_read : (key : Bytes) (max i at : ℕ) (cs : List Bytes) → AtMost sealed_chunk_size cs → i + length cs ≤ max
    → losses i at (parts key i cs) ≡ [] → latest_early i None (parts key i cs) ≡ None
    → last_saved (parts key i cs) ≡ LastChunk → first_fault (outcomes key max i cs) ≡ None
all_read key max i at [] full within none early ends = absurd full
all_read key max i at (c ∷ []) full within none early ends = grind (arith, part_cases, place_reads, padded_last)
all_read key max i at (c ∷ d ∷ ds) full within none early ends = elim (part_cases key i false c) [
  | inl (t, opens, is) ↦
      let more = all_read key max (i + 1) (at + length t) (d ∷ ds) full.1 (omega (arith, within)) (rw is at none)
      (rw is at early) ends in
      rw (place_reads key max i false c t (omega (arith, within)) opens (λ l. absurd (cc))) more
  | inr (inl (t, opens, is)) ↦ absurd (early_stays (i + 1) i (parts key (i + 1) (d ∷ ds)) (rw is at early))
  | inr (inr is) ↦
      absurd (zeros_lost i at c (parts key (i + 1) (d ∷ ds)) (omega (arith, full.0)) (rw is at none))
]

-- ---- a payload

pub payload_plaintext : (k : FileKey) (text : Bytes) (max : ℕ)
    → (rest : Bytes) × (salvaged_text (take max (payload_parts k text))
    ≡ (payload_reading k max text).plaintext ++ rest)
payload_plaintext k text max = elim (cases_lt (length text) 16) [
  | inl lt ↦ (salvaged_text (take max (payload_parts k text)), rw (lt-ltb (length text) 16 lt) refl)
  | inr ge ↦
      let h = plaintext_saved (payload_key k (take 16 text)) max 0 (pieces (drop 16 text)) in
      let all : max - 0 ≡ max = omega arith in
      (h.0, rw (le-ltb (length text) 16 ge) (rw all at h.1))
]

pub payload_whole : (k : FileKey) (text plain : Bytes) (max : ℕ) → payload_reading k max text ≡ whole plain
    → AllSaved max 0 (payload_parts k text) plain
payload_whole k text plain max is = grind (arith, lt-ltb, le-ltb, all_saved, cut_some)

whole_to : (last : Saved) (lost : ℕ) (early : Option ℕ) → is_whole_to last lost early ≡ true
    → (last ≡ LastChunk) × (lost ≡ 0) × (early ≡ None)
whole_to LastChunk lost None e = (refl, grind (arith, nat_tests, e), refl)
whole_to last lost early e = absurd (cc)

pub payload_exactly : (k : FileKey) (text : Bytes) (max : ℕ) → ((payload_reading k max text).fault ≡ None)
    ↔ ((16 ≤ length text) × (length (payload_parts k text) ≤ max)
    × (is_whole (summary (payload_parts k text)) ≡ true))
payload_exactly k text max = (reads, saves)
  where
    key : Bytes
    key = payload_key k (take 16 text)

    ps : List Part
    ps = payload_parts k text

    r : Reading StreamFault
    r = payload_reading k max text

    reads : r.fault ≡ None → (16 ≤ length text) × (length ps ≤ max) × (is_whole (summary ps) ≡ true)
    reads e = elim (cases_lt (length text) 16) [
      | inl lt ↦ let fault = rw (lt-ltb (length text) 16 lt) at e in absurd (cc)
      | inr ge ↦
          let a = payload_whole k text r.plaintext max (ap (λ f. record { plaintext = r.plaintext; fault = f }) e) in (
            ge,
            omega (arith, a.within),
            rw (a.ends, a.none 0, a.early) refl,
          )
    ]

    saves : (16 ≤ length text) × (length ps ≤ max) × (is_whole (summary ps) ≡ true) → r.fault ≡ None
    saves (ge, within, is) =
        let cs : List Bytes = pieces (drop 16 text) in
        let (last, lost, early) = whole_to (last_saved ps) (length (losses 0 0 ps)) (latest_early 0 None ps) is in
        rw (le-ltb (length text) 16 ge) (all_read key max 0 0 cs (cut_at_most sealed_chunk_size (drop 16 text)
        (omega arith)) (omega (arith, within, length_each (part key) 0 cs)) (nil_from_length (losses 0 0 ps) lost)
        early last)
