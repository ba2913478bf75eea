-- Vectors, seen lane by lane.
use Rattle.std.proofs.lemmas.List.{get_or-replicate}
pub use Rattle.std.proofs.lemmas.List.FromFn.{get_or-range_with_len}
pub use Rattle.std.proofs.lemmas.Simd.{shifts_fit_splat}
use Rattle.age_cipher.proofs.Common.{map, range_with_len, ◌≡◌, ℕ, ◌-◌, ◌*◌, ◌/◌, ◌%◌, ◌^◌, ◌<◌, List, [], ◌∷◌, length, set, replicate, slice_index, slice_index_or, arith, refl, sym, ap, ◌∙◌, w32, rotate_left, zip2, fill_by_all, get_or-zip2, zip2_splat, length-zip2, Words, add_words, add_xor_rotate, quarter_round, double_round, start, lane, bit_or, get_or-map, map-set, length-replicate}

-- word k of lane j is lane j of vector k
pub lane_word : (state : List Words) (j k : ℕ) → k < length state
    → slice_index (lane j state) k ≡ slice_index (slice_index_or state k []) j
lane_word state j k inside = get_or-map (λ vector. slice_index vector j) state k [] 0 inside

-- a vector written is a word written in each lane
pub lane_set : (state : List Words) (j k : ℕ) (vector : Words)
    → lane j (set state k vector) ≡ set (lane j state) k (slice_index vector j)
lane_set state j k vector = map-set (λ v. slice_index v j) state k vector

-- an operator whose second operand has the same number in each of n lanes
pub with_splat : (n : ℕ) (f : ℕ → ℕ → ℕ) (x : Words) (m j : ℕ) → length x ≡ n → j < n
    → slice_index (zip2 f x (replicate n m)) j ≡ f (slice_index x j) m
with_splat n f x m j long inside =
    rw (zip2_splat f x n m long) (get_or-map (λ a. f a m) x j 0 0 (omega arith))

-- two shifts of each lane and an or rotate it
pub shifts_rotate : (n : ℕ) (x : Words) (by j : ℕ) → length x ≡ n → 0 < by → by < 32 → j < n
    → slice_index (zip2 bit_or (zip2 (λ a n. a * 2 ^ n % 2 ^ 32) x (replicate n by))
    (zip2 (λ a n. a / 2 ^ n) x (replicate n (32 - by)))) j
    ≡ rotate_left w32 (slice_index x j) by
shifts_rotate n x by j long low high inside =
    let here : (f : ℕ → ℕ → ℕ) (m : ℕ) → j < length (zip2 f x (replicate n m)) = λ f m.
    omega (arith, length-zip2 f x (replicate n m) (long ∙ sym (length-replicate n m))) in
    let same : by % 32 ≡ by = omega arith in
    let rest : (32 - by) % 32 ≡ 32 - by = omega arith in
    get_or-zip2 bit_or _ _ j 0 0 0 (here _ by) (here _ (32 - by))
    ∙ rw (with_splat n _ x by j long inside, with_splat n _ x (32 - by) j long inside, same, rest) refl

-- sixteen vectors, written out
pub sixteen_long : (state : List Words) → length state ≡ 16
    → state ≡ map (λ k. slice_index_or state k []) (range_with_len 0 16)
sixteen_long state long = fill_by_all (λ k. slice_index_or state k []) state 16 [] long (λ k h. refl)

-- lane j of sixteen vectors, written out
pub lane_written : (state : List Words) (j : ℕ) → length state ≡ 16
    → map (λ k. slice_index (slice_index_or state k []) j) (range_with_len 0 16) ≡ lane j state
lane_written state j long = sym (ap (λ vectors. lane j vectors) (sixteen_long state long))

-- sixteen words that are those of lane j
pub lane_is : (state : List Words) (words : Words) (j : ℕ) → length state ≡ 16 → length words ≡ 16
    → ((k : ℕ) → k < 16 → slice_index words k ≡ slice_index (slice_index_or state k []) j) → words ≡ lane j state
lane_is state words j state_long words_long each =
    fill_by_all (λ k. slice_index (slice_index_or state k []) j) words 16 0 words_long each
    ∙ lane_written state j state_long

-- the counter is word 12 of a block's first state
pub start_next : (key nonce : Words) (n more : ℕ)
    → set (start key nonce n) 12 (add_words (slice_index (start key nonce n) 12) more) ≡ start key nonce (add_words n more)
unfolding start
start_next key nonce n more = refl

-- the quarter round of four words alone
abbrev quarter : (a b c d : ℕ) → Words
quarter a b c d = quarter_round 0 1 2 3 (a ∷ b ∷ c ∷ d ∷ [])

-- the double round, as eight quarter rounds of four words alone
pub double_parts : (x0 x1 x2 x3 x4 x5 x6 x7 x8 x9 x10 x11 x12 x13 x14 x15 : ℕ) (q0 q1 q2 q3 p0 p1 p2 p3 : Words)
    → q0 ≡ quarter x0 x4 x8 x12
    → q1 ≡ quarter x1 x5 x9 x13
    → q2 ≡ quarter x2 x6 x10 x14
    → q3 ≡ quarter x3 x7 x11 x15
    → p0 ≡ quarter (slice_index q0 0) (slice_index q1 1) (slice_index q2 2) (slice_index q3 3)
    → p1 ≡ quarter (slice_index q1 0) (slice_index q2 1) (slice_index q3 2) (slice_index q0 3)
    → p2 ≡ quarter (slice_index q2 0) (slice_index q3 1) (slice_index q0 2) (slice_index q1 3)
    → p3 ≡ quarter (slice_index q3 0) (slice_index q0 1) (slice_index q1 2) (slice_index q2 3)
    → double_round (x0 ∷ x1 ∷ x2 ∷ x3 ∷ x4 ∷ x5 ∷ x6 ∷ x7 ∷ x8 ∷ x9 ∷ x10 ∷ x11 ∷ x12 ∷ x13 ∷ x14 ∷ x15 ∷ [])
    ≡ (slice_index p0 0 ∷ slice_index p1 0 ∷ slice_index p2 0 ∷ slice_index p3 0 ∷ slice_index p3 1 ∷ slice_index p0 1 ∷ slice_index p1 1 ∷ slice_index p2 1 ∷ slice_index p2 2 ∷ slice_index p3 2 ∷ slice_index p0 2 ∷ slice_index p1 2 ∷ slice_index p1 3 ∷ slice_index p2 3 ∷ slice_index p3 3 ∷ slice_index p0 3 ∷ [])
unfolding double_round quarter_round add_xor_rotate
double_parts x0 x1 x2 x3 x4 x5 x6 x7 x8 x9 x10 x11 x12 x13 x14 x15 q0 q1 q2 q3 p0 p1 p2 p3 e0 e1 e2 e3 f0 f1 f2 f3 =
    rw (f0, f1, f2, f3, e0, e1, e2, e3) refl

pub ruleset spread = (lane_is, lane_set, start_next, get_or-replicate)

pub ruleset advance = (lane_word, lane_set, start_next, get_or-replicate)
