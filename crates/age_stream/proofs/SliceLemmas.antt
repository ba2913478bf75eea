-- Openings and slices by their offsets.
use Rattle.age_stream.proofs.Common.{◌≡◌, ◌⊎◌, ℕ, List, [], ◌∷◌, ◌+◌, ◌-◌, ◌*◌, ◌<◌, ◌≤◌, length, take, drop, get_or, slice_index, sym, ◌∙◌, ap, arith, nat_le, inl, inr, None, suc, zero, sum_by, cases_lt, le-leb, lt-leb, nat_tests, length-drop, length-take-le, take_all, drop_all, drop-drop, get_or-take, get_or-drop, ext_get_or, sum_by-cons, Bytes, sealed_chunk_size, cut, pieces, is_end, piece_opening, openings, opening, plain_len}
use Rattle.age_stream.proofs.CuttingLemmas.{cut_last}
use Rattle.age_stream.proofs.ReadingLemmas.{cut_step, is_end_cut}

-- list i of a cut, by its offset
pub cut_at : (size i : ℕ) (p : Bytes) → 0 < size → get_or (cut size p) i [] ≡ take size (drop (size * i) p)
cut_at size zero p pos = grind (arith, cut_step, cut_last, take_all)
cut_at size (suc i) p pos = grind (arith, cut_step, cut_last, take_all, drop-drop, drop_all, cut_at size i (drop size p) pos)

-- the test for the last piece, with one more piece before it
shifted : (size n len : ℕ) → size < len → nat_le (len - size) (size * n) ≡ nat_le len (size * suc n)
shifted size n len lt = grind (arith, nat_tests, lt)

-- whether list i of a cut is the last
pub last_cut : (size i : ℕ) (p : Bytes) → 0 < size
    → is_end (drop (suc i) (cut size p)) ≡ nat_le (length p) (size * suc i)
last_cut size zero p pos = grind (arith, cut_step, is_end_cut, lt-leb, cut_last, le-leb)
last_cut size (suc i) p pos = grind (arith, cut_step, cut_last, le-leb, length-drop, shifted, last_cut size i (drop size p) pos)

openings_at : (key : Bytes) (j i : ℕ) (cs : List Bytes) → i < length cs
    → get_or (openings key j cs) i None ≡ piece_opening key (j + i) (is_end (drop (suc i) cs)) (get_or cs i [])
openings_at key j i [] lt = absurd (omega arith)
openings_at key j zero (c ∷ cs) lt = let here : j + 0 ≡ j = omega arith in rw here
openings_at key j (suc i) (c ∷ cs) lt = grind (arith, openings_at key (j + 1) i cs (omega arith))

-- what piece i opens to, by its offset
pub opening_at : (key rest : Bytes) (i : ℕ) → i < length (pieces rest)
    → opening key rest i ≡ piece_opening key i (nat_le (length rest) (sealed_chunk_size * (i + 1)))
    (take sealed_chunk_size (drop (sealed_chunk_size * i) rest))
opening_at key rest i lt = grind (arith, last_cut, openings_at, cut_at)

-- the length of the plaintext, if the last piece has at least a tag
pub plain_count : (n : ℕ) (rest : Bytes) → (n ≡ 0) ⊎ (sealed_chunk_size * n < length rest)
    → length rest ≤ sealed_chunk_size * (n + 1) → sealed_chunk_size * n + 16 ≤ length rest
    → plain_len rest + 16 * (n + 1) ≡ length rest
plain_count zero rest some le tag = grind (arith, cut_last, sum_by-cons)
plain_count (suc n) rest (inl e) le tag = absurd (omega arith)
plain_count (suc n) rest (inr lt) le tag =
    let first : Bytes = take sealed_chunk_size rest in
    let behind : Bytes = drop sealed_chunk_size rest in
    let d = length-drop sealed_chunk_size rest in
    let t = length-take-le sealed_chunk_size rest (omega arith) in
    let step : plain_len rest ≡ (length first - 16) + plain_len behind =
    ap (sum_by (λ piece. length piece - 16)) (cut_step sealed_chunk_size rest (omega arith) (omega arith))
    ∙ sum_by-cons (λ piece. length piece - 16) first (pieces behind) in
    omega (arith, step, plain_count n behind (inr (omega arith)) (omega arith) (omega arith))

-- a text whose bytes are those of another from an offset on is a part of that text
pub slice_of : (xs p : Bytes) (at : ℕ)
    → ((k : ℕ) → k < length xs → (at + k < length p) × (slice_index xs k ≡ get_or p (at + k) 0))
    → xs ≡ take (length xs) (drop at p)
slice_of xs p at bytes =
    let reach : length xs ≤ length p - at = elim (cases_lt 0 (length xs)) [
      | inl some ↦ omega (arith, (bytes (length xs - 1) (omega arith)).0)
      | inr none ↦ omega arith
    ] in
    let len = length-take-le (length xs) (drop at p) (omega (arith, length-drop at p)) in
    ext_get_or 0 xs (take (length xs) (drop at p)) (sym len) (λ k lt.
    (bytes k lt).1 ∙ sym (get_or-drop at p k 0) ∙ sym (get_or-take (length xs) (drop at p) k 0 lt))
