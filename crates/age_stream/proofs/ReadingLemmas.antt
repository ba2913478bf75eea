-- Reading a payload one piece after another.
use Rattle.age_stream.proofs.Common.{◌≡◌, ◌⊎◌, ℕ, List, [], ◌∷◌, ◌++◌, ◌+◌, ◌-◌, ◌*◌, ◌<◌, ◌≤◌, length, take, drop, sym, ◌∙◌, ap, arith, nat_lt, cond, true, false, refl, inl, inr, Result, Ok, Err, suc, zero, cases_lt, le-leb, lt-leb, true≢false, take-append-drop, take_all, length-take-le, length-drop, Bytes, StreamFault, sealed_chunk_size, cut, cut_after, pieces_left, reading_left, pieces, is_end, Reading, after_first, first_outcome, outcome, outcomes, first_fault, plaintext_of, reading_from, stop}
use Rattle.age_stream.proofs.CuttingLemmas.{cut_first, cut_last}

-- the reading of a piece with this outcome and, unless that is a fault, of the rest after it
abbrev pub then_read : Result Bytes StreamFault → Reading StreamFault → Reading StreamFault
then_read (Ok text) rest = record { plaintext = text ++ rest.plaintext; fault = rest.fault }
then_read (Err fault) rest = stop fault

-- a text that does not fit into one list is cut into its first `size` bytes and the cut of the rest
pub cut_step : (size : ℕ) (p : Bytes) → 0 < size → size < length p → cut size p ≡ take size p ∷ cut size (drop size p)
cut_step size p pos lt =
    let l : length (take size p) ≡ size = length-take-le size p (omega arith) in
    let d : length (drop size p) ≡ length p - size = length-drop size p in
    ap (cut size) (sym (take-append-drop size p)) ∙ cut_first size (take size p) (drop size p) pos (omega arith) l

-- a cut has at least one list
pub is_end_cut : (size : ℕ) (held p : Bytes) → is_end (cut_after size held p) ≡ false
is_end_cut size held [] = refl
is_end_cut size held (x ∷ xs) = grind (arith, nat_lt, cond, is_end_cut size (held ++ x ∷ []) xs)

pub cut_some : (size : ℕ) (held p : Bytes) → 0 < length (cut_after size held p)
cut_some size held p = go (cut_after size held p) (is_end_cut size held p)
  where
    go : (cs : List Bytes) → is_end cs ≡ false → 0 < length cs
    go [] e = absurd (true≢false e)
    go (c ∷ cs) e = omega arith

-- the reading of an outcome and then of others
reading_then : (r : Result Bytes StreamFault) (rs : List (Result Bytes StreamFault))
    → record { plaintext = plaintext_of (r ∷ rs); fault = first_fault (r ∷ rs) }
    ≡ then_read r (record { plaintext = plaintext_of rs; fault = first_fault rs })
reading_then (Ok p) rs = refl
reading_then (Err f) rs = refl

-- the reading of c: of its first piece, and then of what follows it
pub reading_first : (key : Bytes) (max i : ℕ) (c : Bytes)
    → reading_from key max i c ≡ then_read (first_outcome key max i c) (reading_left key max (i + 1) (after_first c))
reading_first key max i c = elim (cases_lt sealed_chunk_size (length c)) [
  | inl lt ↦
      let rest : Bytes = drop sealed_chunk_size c in
      rw (
        lt-leb (length c) sealed_chunk_size lt,
        cut_step sealed_chunk_size c (omega arith) lt,
        is_end_cut sealed_chunk_size [] rest,
      )
      (reading_then (outcome key max i false (take sealed_chunk_size c)) (outcomes key max (i + 1) (pieces rest)))
  | inr le ↦
      rw (le-leb (length c) sealed_chunk_size le, take_all sealed_chunk_size c le, cut_last sealed_chunk_size c le)
      (reading_then (outcome key max i true c) [])
]

pub count_first : (c : Bytes) → length (pieces c) ≡ length (pieces_left (after_first c)) + 1
count_first c = grind (arith, lt-leb, cut_step, le-leb, cut_last, cases_lt sealed_chunk_size (length c))

-- how many lists a cut has
pub cut_count : (size n : ℕ) (p : Bytes) → 0 < size → (n ≡ 0) ⊎ (size * n < length p) → length p ≤ size * (n + 1)
    → length (cut size p) ≡ n + 1
cut_count size zero p pos some le = grind (arith, cut_last)
cut_count size (suc n) p pos (inl e) le = absurd (omega arith)
cut_count size (suc n) p pos (inr lt) le =
    let more : size < length p = omega arith in
    let d : length (drop size p) ≡ length p - size = length-drop size p in
    let rest : length (cut size (drop size p)) ≡ n + 1 =
    cut_count size n (drop size p) pos (inr (omega arith)) (omega arith) in
    let all : length (cut size p) ≡ suc (length (cut size (drop size p))) = ap length (cut_step size p pos more) in
    omega arith
