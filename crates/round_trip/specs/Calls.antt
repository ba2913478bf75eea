-- Calls on one reader of ranges, one after another.
use Rattle.std.specs.Prelude.{ℕ, ◌≡◌, ◌+◌, ◌-◌, ◌*◌, ◌/◌, ◌<◌, ◌⊎◌, length, take, drop, IsSome, None, Result, Ok, Err}
use Rattle.age_stream.specs.declared.fault.StreamFault.{StreamFault}
use Rattle.age_stream.specs.declared.fault.StreamFault.TheVariants.{BadChunk, Read}
use Rattle.age_stream.specs.declared.layout.Layout.{Layout}
use Rattle.age_stream.specs.Ranges.{HasPlain, IsThere, RangeState, ReadsRange, range_len, source_opening}
use Rattle.age_stream.specs.Sizes.{chunk_size}
use Rattle.age_file.specs.Words.{Bytes, Known}
use Rattle.round_trip.specs.declared.ranges.RangeCall.{RangeCall}

-- chunk i holds one of the n bytes from `at` on
abbrev pub Touches : (at n i : ℕ) → Type 0
Touches at n i = (k : ℕ) × (k < n) × ((at + k) / chunk_size ≡ i)

-- the buffer's first n bytes are the plaintext from `at` on, if `IsThere`; the rest is unchanged
abbrev pub FillsKnown : (told : Known) (layout : Layout) (at n : ℕ) (old new : Bytes) → Type 0
FillsKnown told layout at n old new =
    (drop n new ≡ drop n old) × (IsThere told layout → HasPlain told layout at (take n new))

-- A call's result, by the contents (if `IsThere`) and the state before the first call. Ok: the
-- slice of the plaintext, and every touched chunk opens. A fault: `Read` or `BadChunk` at a touched
-- chunk, and the slice before that chunk. The rest of the buffer is unchanged.
abbrev pub Answers : (told : Known) (s : RangeState) (at : ℕ) (old new : Bytes)
    (r : Result ℕ StreamFault) → Type 0
Answers told s at old new (Ok n) =
    (n ≡ range_len s at (length old)) × FillsKnown told s.layout at n old new
    × ((i : ℕ) → Touches at n i → IsThere told s.layout
    → IsSome (source_opening told s.layout i))
Answers told s at old new (Err fault) =
    (i : ℕ) × Touches at (range_len s at (length old)) i
    × FillsKnown told s.layout at (chunk_size * i - at) old new
    × ((fault ≡ Read)
    ⊎ ((fault ≡ BadChunk i)
    × (IsThere told s.layout → source_opening told s.layout i ≡ None)))

-- `call`, a call before and after it was made, took the reader from the state `old` to `new`.
-- `first` and `s` are the reader's source and chunks before the first call of the list.
pub record Makes {D : Type 0} (told : D → Known) (count_given failed : D → ℕ)
    (gave : D → (at byte : ℕ) → Type 0) (first : D) (s : RangeState) (old : D × RangeState)
    (call : RangeCall × RangeCall) (new : D × RangeState) : Type 0 where
  pub answers : Answers (told first) s call.0.at call.0.buf.items call.1.buf.items call.1.answer
  pub reads : ReadsRange told count_given failed gave call.0.at
      (record { source = old.0; chunks = old.1; buf = call.0.buf.items })
      (record { source = new.0; chunks = new.1; buf = call.1.buf.items }) call.1.answer
