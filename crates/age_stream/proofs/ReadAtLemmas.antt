-- Bytes that a source gave at an offset.
use Rattle.age_stream.proofs.Common.{◌≡◌, ℕ, ◌+◌, ◌-◌, ◌<◌, ◌≤◌, length, take, drop, min, slice_index, ◌∙◌, sym, ap, subst, arith, inl, inr, Option, cases_lt, length-take, length-take-le, length-drop, ext_get_or, get_or-take, get_or-drop, get_or_from_slice_get, slice_get_within, Agrees, Bytes, StaysGiven, GaveAt}

sized : (b xs : Bytes) {gave : ℕ → ℕ → Type 0} {found : Option ℕ} (at : ℕ) → Agrees b gave found → GaveAt gave at xs
    → length xs ≡ length (take (length xs) (drop at b))
sized b xs at agrees given = grind (arith, length-take, length-drop, slice_get_within)

-- the bytes that a source gave at an offset are those of its known contents
pub has_at : (b xs : Bytes) {gave : ℕ → ℕ → Type 0} {found : Option ℕ} (at : ℕ) → Agrees b gave found
    → GaveAt gave at xs → xs ≡ take (length xs) (drop at b)
has_at b xs at agrees given =
    ext_get_or 0 xs (take (length xs) (drop at b)) (sized b xs at agrees given) (λ k lt.
    sym (get_or-take (length xs) (drop at b) k 0 lt ∙ get_or-drop at b k 0
    ∙ get_or_from_slice_get b (at + k) (slice_index xs k) 0 (agrees.given (at + k) (slice_index xs k) (given k lt))))

-- the bytes read before and the n bytes after them, joined, were read from `at` on
pub read_on : (old_read new_read : ℕ → ℕ → Type 0) (at got n : ℕ) (old new : Bytes) → got + n ≤ length new
    → length new ≡ length old → take got new ≡ take got old
    → StaysGiven old_read new_read → GaveAt old_read at (take got old)
    → GaveAt new_read (at + got) (take n (drop got new)) → GaveAt new_read at (take (got + n) new)
read_on old_read new_read at got n old new le len same stays so_far more k lt =
    let c : length (take (got + n) new) ≡ got + n = length-take-le (got + n) new le in
    let a : length (take got old) ≡ got = length-take-le got old (omega arith) in
    let d : length (drop got new) ≡ length new - got = length-drop got new in
    let b : length (take n (drop got new)) ≡ n = length-take-le n (drop got new) (omega arith) in
    let within : k < got + n = omega (arith, lt, c) in
    let here : slice_index (take (got + n) new) k ≡ slice_index new k = get_or-take (got + n) new k 0 within in
    elim (cases_lt k got) [
      | inl before ↦
          let value : slice_index (take got old) k ≡ slice_index new k =
          ap (λ x. slice_index x k) (sym same) ∙ get_or-take got new k 0 before in
          subst (new_read (at + k)) (value ∙ sym here)
          (stays (at + k) (slice_index (take got old) k) (so_far k (omega (arith, a, before))))
      | inr ge ↦
          let j : ℕ = k - got in
          let sum : got + j ≡ k = omega arith in
          let inside : j < n = omega (arith, within, ge) in
          let value : slice_index (take n (drop got new)) j ≡ slice_index new k =
          get_or-take n (drop got new) j 0 inside ∙ get_or-drop got new j 0 ∙ ap (slice_index new) sum in
          subst (new_read (at + k)) (value ∙ sym here)
          (subst (λ p. new_read p (slice_index (take n (drop got new)) j)) (omega (arith, sum))
          (more j (omega (arith, b, inside))))
    ]
