-- Words as bytes, lanes as blocks, and texts xored piece by piece.
use Rattle.age_cipher.proofs.Common.{flat_map-append, le_bytes, ◌≡◌, ℕ, suc, ◌+◌, ◌-◌, ◌*◌, ◌/◌, ◌%◌, ◌^◌, ◌<◌, ◌≤◌, List, [], ◌∷◌, ◌++◌, length, take, drop, slice_index, slice_index_or, bit_xor, arith, refl, ap, ◌∙◌, number_l, digits_l, zip2, cases_lt, length-zip2, get_or-zip2, Bytes, Words, start, block_words, block, stream_byte, lane, bytes, column, lane_byte, Each1, put_chunk, get_or_append_left, get_or-append_right, length-chunk, get_or-chunk, get_or-put_chunk_below, get_or-put_chunk_at, get_or-put_chunk_above, IsXored, rules}
use Rattle.age_cipher.proofs.LaneLemmas.{lane_written}

-- the number that words spell has the bytes of the words as its digits to the base 256
pub digits_bytes : (words : Words) → Each1 (λ w. w < 2 ^ 32) words
    → digits_l 256 (4 * length words) (number_l (2 ^ 32) words) ≡ bytes words
digits_bytes [] below = refl
digits_bytes (w ∷ words) below =
    let rest = number_l (2 ^ 32) words in
    let e : 4 * suc (length words) ≡ suc (suc (suc (suc (4 * length words)))) = omega arith in
    let b0 : (w + 2 ^ 32 * rest) % 256 ≡ w % 256 = omega arith in
    let b1 : (w + 2 ^ 32 * rest) / 256 % 256 ≡ w / 256 % 256 = omega arith in
    let b2 : (w + 2 ^ 32 * rest) / 256 / 256 % 256 ≡ w / 256 ^ 2 % 256 = omega arith in
    let b3 : (w + 2 ^ 32 * rest) / 256 / 256 / 256 % 256 ≡ w / 256 ^ 3 % 256 = omega arith in
    let left : (w + 2 ^ 32 * rest) / 256 / 256 / 256 / 256 ≡ rest = omega (arith, below.0) in
    rw (e, b0, b1, b2, b3, left) (ap (λ bs. w % 256 ∷ w / 256 % 256 ∷ w / 256 ^ 2 % 256 ∷ w / 256 ^ 3 % 256 ∷ bs)
    (digits_bytes words below.1))

-- a word has four bytes
pub length-bytes : (words : Words) → length (bytes words) ≡ 4 * length words
length-bytes [] = refl
length-bytes (w ∷ words) = omega (arith, length-bytes words)

-- two pieces xored one after the other
pub xored_on : {at m next n : ℕ} {f : ℕ → ℕ} {old half new : Bytes} → next ≡ at + m
    → IsXored at m f old half → IsXored next n f half new → IsXored at (m + n) f old new
xored_on {at} {m} {next} {n} {f} {old} {half} {new} e first then = search (rules, cases_lt)

-- a stream replaced by one that agrees with it on these bytes
pub xored_by : {at n : ℕ} {f g : ℕ → ℕ} {old new : Bytes} → ((j : ℕ) → at ≤ j → j < at + n → f j ≡ g j)
    → IsXored at n f old new → IsXored at n g old new
xored_by {at} {n} {f} {g} {old} {new} same xored = search rules

-- n bytes of a buffer xored with a stream
pub chunk_xored : (n at : ℕ) (buf : Bytes) {digits : Bytes} (stream : Bytes)
    → digits ≡ stream → length stream ≡ n → at + n ≤ length buf
    → IsXored at n (λ j. slice_index stream (j - at)) buf
    (put_chunk at buf (zip2 bit_xor (take n (drop at buf)) digits))
chunk_xored n at buf {digits} stream e long room =
    let new : Bytes = put_chunk at buf (zip2 bit_xor (take n (drop at buf)) digits) in
    let each : (j : ℕ) → j < n → slice_index new (at + j) ≡ bit_xor (slice_index buf (at + j)) (slice_index stream j) =
    λ j below. search (rules, length-chunk, length-zip2, get_or-put_chunk_at, get_or-zip2, get_or-chunk) in
    record {
      before = λ j below. search (rules, get_or-put_chunk_below);
      inside = λ j low high.
          let place : at + (j - at) ≡ j = omega arith in
          rw place at (each (j - at) (omega arith));
      after = λ j above. search (rules, length-chunk, length-zip2, get_or-put_chunk_above);
    }

-- two pieces xored, one with the bytes of x and the next with the bytes of y
pub xored_next : {at m next n : ℕ} (x y : Words) {old half new : Bytes} → 4 * length x ≡ m → next ≡ at + m
    → IsXored at m (λ j. slice_index (bytes x) (j - at)) old half
    → IsXored next n (λ j. slice_index (bytes y) (j - next)) half new
    → IsXored at (m + n) (λ j. slice_index (bytes (x ++ y)) (j - at)) old new
xored_next {at} {m} {next} {n} x y {old} {half} {new} long e first then = grind (arith, length-bytes, flat_map-append, get_or_append_left, get_or-append_right)

-- words i to i + 3 of lane k
abbrev four_words : (words : List Words) (k i : ℕ) → Words
four_words words k i =
    column k (slice_index_or words i []) (slice_index_or words (i + 1) []) (slice_index_or words (i + 2) [])
    (slice_index_or words (i + 3) [])

-- a text xored with lane k of sixteen vectors, as a part of the bytes of all lanes from `at` on
pub block_xored : (words : List Words) (at k : ℕ) {place : ℕ} {a b c d : Words} {old new : Bytes}
    → length words ≡ 16 → place ≡ at + 64 * k
    → a ≡ four_words words k 0 → b ≡ four_words words k 4 → c ≡ four_words words k 8 → d ≡ four_words words k 12
    → IsXored place 64 (λ j. slice_index (bytes (a ++ (b ++ (c ++ d)))) (j - place)) old new
    → IsXored place 64 (λ j. lane_byte words (j - at)) old new
block_xored words at k {place} long e ea eb ec ed xored =
    xored_by (λ j low below.
    let number : (j - at) / 64 ≡ k = omega (arith, e) in
    let byte : (j - at) % 64 ≡ j - place = omega (arith, e) in
    rw (ea, eb, ec, ed, number, byte) (ap (λ w. slice_index (bytes w) (j - place)) (lane_written words k long))) xored

-- xored with lanes that are the blocks from `counter` on
pub xored_with_lanes : (words : List Words) (key nonce : Bytes) (counter : ℕ) {at n : ℕ} {old new : Bytes}
    → ((k : ℕ) → 64 * k < n → lane k words ≡ block_words (start key nonce (counter + k)))
    → IsXored at n (λ j. lane_byte words (j - at)) old new
    → IsXored at n (λ j. stream_byte key nonce counter (j - at)) old new
unfolding block
xored_with_lanes words key nonce counter {at} {n} each xored =
    xored_by (λ j low below. ap (λ w. slice_index (bytes w) ((j - at) % 64)) (each ((j - at) / 64) (omega arith))) xored

-- a piece that begins where a block begins, as a part of the whole text
pub xored_as_part : (key nonce : Bytes) (counter : ℕ) {number at n : ℕ} {old new : Bytes}
    → at % 64 ≡ 0 → number ≡ counter + at / 64
    → IsXored at n (λ j. stream_byte key nonce number (j - at)) old new
    → IsXored at n (stream_byte key nonce counter) old new
xored_as_part key nonce counter {number} {at} {n} whole e xored = grind (arith, xored_by)
