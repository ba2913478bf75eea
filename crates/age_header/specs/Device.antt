-- The effect of a read or a write on the known bytes of a device and on its count of failures.
use Rattle.std.specs.Prelude.{◌≡◌, ℕ, ◌+◌, ◌-◌, ◌^◌, ◌<◌, ◌≤◌, ◌++◌, [], Bool, true, min, length, take, MatchResult, if◌then◌else◌}
use Rattle.std.specs.declared.option.Option.{Option}
use Rattle.std.specs.declared.result.Result.{Result}
use Rattle.std.specs.Io.KnownBytes.{Consumes, Appends, Keeps, IsAtEnd}
pub use Rattle.age_kdf.specs.Bytes.{Bytes}

-- the bytes to come from a source, or taken by a sink, if they are known; else None
abbrev pub Known : Type 0
Known = Option Bytes

-- a device before and after a call, as far as its bytes are known
pub record Moved : Type 0 where
  pub before : Known
  pub after : Known

abbrev pub move_of : (before after : Known) → Moved
move_of before after = record { before = before; after = after }

-- the known bytes of a device before and after a call, by a ghost member such as `taken`
abbrev pub move_by : {D : Type 0} (told : D → Known) (old new : D) → Moved
move_by told old new = move_of (told old) (told new)

-- a source at one moment: the bytes to come, if they are known, and the predicate that holds of the
-- bytes that it may have returned so far
pub record Seen : Type 1 where
  pub to_come : Known
  pub gave : Bytes → Type 0

-- a source before and after a call
pub record Flow : Type 1 where
  pub before : Seen
  pub after : Seen

abbrev pub flow : (before after : Seen) → Flow
flow before after = record { before = before; after = after }

-- a source at one moment, by its ghost members
abbrev pub seen_by : {S : Type 0} (to_come : S → Known) (gave : S → Bytes → Type 0) (s : S) → Seen
seen_by to_come gave s = record { to_come = to_come s; gave = gave s }

abbrev pub flow_by : {S : Type 0} (to_come : S → Known) (gave : S → Bytes → Type 0) (old new : S)
    → Flow
flow_by to_come gave old new = flow (seen_by to_come gave old) (seen_by to_come gave new)

-- the source returned these bytes after its earlier ones
abbrev pub Grew : (source : Flow) (bytes : Bytes) → Type 0
Grew source bytes = (past : Bytes) → source.before.gave past → source.after.gave (past ++ bytes)

-- the source returned these bytes, which are its next ones if the bytes to come are known
pub record Gave (source : Flow) (bytes : Bytes) : Type 0 where
  pub consumes : Consumes source.before.to_come source.after.to_come bytes
  pub grew : Grew source bytes

-- the source returned some bytes, perhaps none
abbrev pub GaveSome : (source : Flow) → Type 0
GaveSome source = (bytes : Bytes) × Gave source bytes

-- the sink took these bytes after its earlier ones
abbrev pub Took : (sink : Moved) (bytes : Bytes) → Type 0
Took sink bytes = Appends sink.before sink.after bytes

-- the sink's bytes, if known, are unchanged
abbrev pub Stays : (sink : Moved) → Type 0
Stays sink = Keeps sink.before sink.after

-- A fault of this device raised its count of failures by one, saturating at the largest u64; any
-- other fault left the count unchanged.
abbrev pub CountsFaultIf : {E : Type 0} (is_own : E → Bool) (old new : ℕ) (fault : E) → Type 0
CountsFaultIf is_own old new fault =
    new ≡ (if is_own fault then min (old + 1) (2 ^ 64 - 1) else old)

-- A fault of the device's own kind (`Read` of a source, `Write` of a sink) raised its count of
-- failures by one, saturating at the largest u64. Any other result left the count unchanged. So if
-- the count rose, that fault is returned.
abbrev pub CountsIf : {A E : Type 0} (is_own : E → Bool) (old new : ℕ) (r : Result A E) → Type 0
CountsIf is_own old new r = MatchResult r (λ _. new ≡ old) (CountsFaultIf is_own old new)

-- Every error is the device's: it raised the count of failures by one, saturating at the largest
-- u64. On Ok the count is unchanged.
abbrev pub Counts : {A E : Type 0} (old new : ℕ) (r : Result A E) → Type 0
Counts old new r = CountsIf (λ _. true) old new r

-- on Ok(n) the source returned n bytes, 0 only at its end or for an empty buffer; on an Err, none
abbrev pub Gives : {E : Type 0} (source : Flow) (r : Result ℕ E) (buf : Bytes) → Type 0
Gives source r buf =
    MatchResult r
    (λ n. Gave source (take n buf) × (n ≡ 0 → 0 < length buf → IsAtEnd source.after.to_come))
    (λ _. Gave source [])

-- the sink took the first n bytes on Ok(n), at least one of a nonempty piece, and nothing on an Err
abbrev pub Takes : {E : Type 0} (sink : Moved) (r : Result ℕ E) (piece : Bytes) → Type 0
Takes sink r piece =
    MatchResult r (λ n. Took sink (take n piece) × (0 < length piece → 0 < n)) (λ _. Stays sink)

-- a prefix of the text was written
abbrev pub WritesPart : (sink : Moved) (text : Bytes) → Type 0
WritesPart sink text = (n : ℕ) × Took sink (take n text)

-- on Ok the whole text was written, on an Err a prefix of it
abbrev pub Writes : {A E : Type 0} (sink : Moved) (r : Result A E) (text : Bytes) → Type 0
Writes sink r text = MatchResult r (λ _. Took sink text) (λ _. WritesPart sink text)

-- P holds of the bytes that the source returned, followed by any bytes; at the end of the source,
-- or if its bytes to come are unknown, followed by none.
pub record OfGiven (source : Flow) (P : Bytes → Type 0) : Type 0 where
  pub given : Bytes
  pub gave : Gave source given
  pub holds : (d : Bytes) → (IsAtEnd source.after.to_come → d ≡ []) → P (given ++ d)

-- the source returned at most n bytes
abbrev pub GaveAtMost : (n : ℕ) (source : Flow) → Type 0
GaveAtMost n source = (given : Bytes) × Gave source given × (length given ≤ n)
