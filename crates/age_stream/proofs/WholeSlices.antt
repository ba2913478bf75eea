-- Ranges of a payload without a fault: they are parts of its plaintext.
use Rattle.age_stream.proofs.Common.{◌≡◌, inl, inr, ℕ, List, [], ◌∷◌, ◌+◌, ◌-◌, ◌<◌, length, take, drop, get_or, ◌∙◌, ap, arith, true, None, Ok, cases_lt, le-ltb, lt-ltb, Bytes, FileKey, StreamFault, Reading, chunk_size, sealed_chunk_size, chunks, pieces, sealed_chunks_from, payload_key, outcome, outcomes, first_fault, payload_reading, whole, plain_len, IsSlice, range_outcome, ◌*◌, map, refl, sym, Some, get_or-map, get_or_past, length-drop, length-take, opened_text-sealed_text, chunk_nonce, is_end, opening, openings, last_saved, padding, payload_parts, salvaged_text}
use Rattle.age_stream.proofs.SliceLemmas.{cut_at}
use Rattle.age_stream.proofs.PayloadLemmas.{is_end_each, opens_first, whole_pieces}
use Rattle.age_stream.proofs.ReadingLemmas.{cut_some}
use Rattle.age_stream.proofs.SalvageReading.{payload_whole}
use Rattle.age_stream.proofs.SalvageSlices.{salvaged_len, slice_saved}

pub whole_len : (k : FileKey) (b p : Bytes) (max : ℕ) → payload_reading k max b ≡ whole p
    → plain_len (drop 16 b) ≡ length p
whole_len k b p max h = grind (arith, payload_whole k b p max h, salvaged_len (payload_key k (take 16 b)) 0 (pieces (drop 16 b)))

-- the last of some outcomes without a fault is Ok
last_ok : (key : Bytes) (max i n : ℕ) (c : Bytes) (cs : List Bytes) → n ≡ i + length cs
    → first_fault (outcomes key max i (c ∷ cs)) ≡ None
    → (t : Bytes) × (outcome key max n true (get_or (c ∷ cs) (length cs) []) ≡ Ok t)
last_ok key max i n c [] at e = grind (arith, opens_first key max i c [] e)
last_ok key max i n c (d ∷ ds) at e =
    last_ok key max (i + 1) n d ds (omega arith) (opens_first key max i c (d ∷ ds) e).2

pub whole_opens : (k : FileKey) (b p : Bytes) (max : ℕ) → payload_reading k max b ≡ whole p
    → (last : Bytes) × (range_outcome k max b ≡ Ok last)
whole_opens k b p max h = elim (cases_lt (length b) 16) [
  | inl lt ↦ let fault = ap (λ (r : Reading StreamFault). r.fault) (rw (lt-ltb (length b) 16 lt) at h) in absurd (cc)
  | inr ge ↦
      let none = ap (λ (r : Reading StreamFault). r.fault) (rw (le-ltb (length b) 16 ge) at h) in
      let (t, is) = last (pieces (drop 16 b)) (cut_some sealed_chunk_size [] (drop 16 b)) none in
      (t, rw (le-ltb (length b) 16 ge) is)
]
  where
    key : Bytes
    key = payload_key k (take 16 b)

    last : (cs : List Bytes) → 0 < length cs → first_fault (outcomes key max 0 cs) ≡ None
        → (t : Bytes) × (outcome key max (length cs - 1) true (get_or cs (length cs - 1) []) ≡ Ok t)
    last [] some e = absurd (omega arith)
    last (c ∷ cs) some e =
        let n : length (c ∷ cs) - 1 ≡ length cs = omega arith in
        rw n (last_ok key max 0 (length cs) c cs (omega arith) e)

pub whole_slice : (k : FileKey) (b p xs : Bytes) (max at : ℕ) → payload_reading k max b ≡ whole p
    → IsSlice (payload_key k (take 16 b)) (drop 16 b) at xs → xs ≡ take (length xs) (drop at p)
whole_slice k b p xs max at h s =
    slice_saved k b xs at s ∙ ap (λ t. take (length xs) (drop at t)) (payload_whole k b p max h).is

openings_each : (key : Bytes) (i : ℕ) (ts : List Bytes) → openings key i (sealed_chunks_from key i ts) ≡ map Some ts
openings_each key i [] = refl
openings_each key i (t ∷ ts) = grind (arith, is_end_each, opened_text-sealed_text, openings_each key (i + 1) ts)

-- each chunk that is not empty opens to its part of the plaintext
pub whole_chunk : (k : FileKey) (b p : Bytes) (max i : ℕ) → payload_reading k max b ≡ whole p
    → chunk_size * i < length p
    → opening (payload_key k (take 16 b)) (drop 16 b) i ≡ Some (take chunk_size (drop (chunk_size * i) p))
whole_chunk k b p max i h less =
    let key : Bytes = payload_key k (take 16 b) in
    let is = cut_at chunk_size i p (omega arith) in
    let within : i < length (chunks p) = elim (cases_lt i (length (chunks p))) [
      | inl lt ↦ lt
      | inr past ↦
          let none : length (take chunk_size (drop (chunk_size * i) p)) ≡ 0 =
          ap length (sym is ∙ get_or_past (chunks p) i [] past) in
          absurd (omega (arith, length-take {A = ℕ}, length-drop {A = ℕ}))
    ] in
    ap (λ os. get_or os i None) (ap (openings key 0) (whole_pieces k b p max h) ∙ openings_each key 0 (chunks p))
    ∙ get_or-map Some (chunks p) i [] None within ∙ ap Some is
