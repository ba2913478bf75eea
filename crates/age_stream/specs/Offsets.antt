-- The results of a source's calls: the bytes read at offsets, its counts, and its size.
use Rattle.std.specs.Prelude.{◌≡◌, ℕ, ◌+◌, ◌-◌, ◌^◌, ◌<◌, ◌≤◌, min, length, slice_get, slice_index, IfSome, IfOk, MatchResult, Option, Some, Result}
use Rattle.age_stream.specs.Words.{Bytes, Known}

-- no known byte has this offset
abbrev pub IsPast : (told : Known) (at : ℕ) → Type 0
IsPast told at = IfSome told (λ bytes. length bytes ≤ at)

-- a read into a nonempty buffer returns 0 only at or past the end of the known bytes and size
abbrev pub EmptyAtEnd : {E : Type 0} (told : Known) (size : Option ℕ) (at : ℕ) (r : Result ℕ E)
    (buf : Bytes) → Type 0
EmptyAtEnd told size at r buf =
    IfOk r (λ n. n ≡ 0 → 0 < length buf → IsPast told at × IfSome size (λ s. s ≤ at))

-- each byte of xs was read at its offset, the first of them at `at`
abbrev pub GaveAt : (gave : (at byte : ℕ) → Type 0) (at : ℕ) (xs : Bytes) → Type 0
GaveAt gave at xs = (k : ℕ) → k < length xs → gave (at + k) (slice_index xs k)

-- bytes read before still count as read
abbrev pub StaysGiven : (old new : (at byte : ℕ) → Type 0) → Type 0
StaysGiven old new = (at byte : ℕ) → old at byte → new at byte

-- the number of known bytes fits a u64
abbrev pub HasOffsets : Known → Type 0
HasOffsets told = IfSome told (λ bytes. length bytes < 2 ^ 64)

-- a count rises by n on Ok(n), saturating at the largest u64; on an Err it is unchanged
abbrev pub CountsGiven : {E : Type 0} (old new : ℕ) (r : Result ℕ E) → Type 0
CountsGiven old new r = MatchResult r (λ n. new ≡ min (old + n) (2 ^ 64 - 1)) (λ _. new ≡ old)

-- on Ok the size is found, which is that of the known bytes; a size found before stays
abbrev pub FindsSize : {E : Type 0} (told : Known) (old new : Option ℕ) (r : Result ℕ E) → Type 0
FindsSize told old new r =
    MatchResult r
    (λ n. (new ≡ Some n) × IfSome old (λ s. n ≡ s) × IfSome told (λ bytes. n ≡ length bytes))
    (λ _. new ≡ old)

-- each byte read is the one at its offset in `bytes`, and the size found is their number
pub record Agrees (bytes : Bytes) (gave : (at byte : ℕ) → Type 0) (found : Option ℕ)
    : Type 0 where
  pub given : (at byte : ℕ) → gave at byte → slice_get bytes at ≡ Some byte
  pub size : IfSome found (λ n. n ≡ length bytes)
