-- The state of a reader of ranges between two calls, and the results of its opening and its calls.
use Rattle.std.specs.Prelude.{ℕ, [], ◌+◌, ◌-◌, ◌*◌, ◌/◌, ◌^◌, ◌<◌, ◌≤◌, ◌≡◌, ◌⊎◌, length, take, drop, min, nat_eq, slice_get, slice_index, ◌%◌, unwrap_or, IsSome, IfOk, IfErr, OnErr, MatchResult, ⊤, Bool, true, false, Option, Some, None, Result, Ok, Err, if◌then◌else◌}
use Rattle.age_stream.specs.Words.{Bytes, Key, CountsFaultIf, CountsIf, Known, Moved, move_by, FileKey, StreamFault, BadChunk, Read, Write, Memory, NonceTruncated, TooManyChunks, Layout, nonce_size, tag_size, chunk_size, sealed_chunk_size}
use Rattle.std.specs.Option.{MatchOption}
use denote.Ref.{MutBor}
use Rattle.age_stream.specs.Counts.{is_read}
use Rattle.age_stream.specs.Payload.{payload_key}
use Rattle.age_stream.specs.Offsets.{GaveAt, StaysGiven}
use Rattle.age_stream.specs.Reading.{outcome, piece_opening}
use Rattle.age_stream.specs.Writer.{IsRefusedMemory}
use Rattle.age_stream.specs.Slice.{opening, plain_len, chunk_len, IsSlice, range_outcome}

-- the known bytes from an offset on
abbrev pub bytes_from : (told : Known) (at : ℕ) → Bytes
bytes_from told at = drop at (unwrap_or told [])

-- a reader between two calls: the layout of the chunks, the index of the chunk kept, if any, the
-- buffer, which then begins with that chunk's text, and the number of attempts to open a chunk
pub record RangeState : Type 0 where
  pub layout : Layout
  pub index : Option ℕ
  pub buf : Bytes
  pub opened : ℕ

-- the text that piece i of the known contents opens to, if it opens
abbrev pub source_opening : (told : Known) (layout : Layout) (i : ℕ) → Option Bytes
source_opening told layout i = opening layout.key (bytes_from told layout.first) i

-- a reader of ranges: the reference to its source, and its chunks
pub record RangesOver (D : Type 0) : Type 0 where
  pub dev : MutBor D
  pub chunks : RangeState

-- the text of chunk i, if that is the chunk kept
abbrev pub kept_text : (s : RangeState) (i : ℕ) → Bytes
kept_text s i = take (chunk_len s.layout.plain i) s.buf

-- the source's contents are known, and end with the last piece
pub record IsThere (told : Known) (layout : Layout) : Type 0 where
  pub known : IsSome told
  pub size : length (bytes_from told layout.first) ≡ layout.plain + tag_size * layout.count

-- the offset at which the last piece ends
abbrev pub end_of : Layout → ℕ
end_of layout = layout.first + layout.plain + tag_size * layout.count

-- Piece i was read at its offset, and `opened` is its text under its number, or None if it does not
-- open (C2SP age.md, "Payload").
pub record PieceOpens (gave : (at byte : ℕ) → Type 0) (layout : Layout) (i : ℕ)
    (opened : Option Bytes) : Type 0 where
  pub within : i < layout.count
  pub piece : Bytes
  pub read : GaveAt gave (layout.first + sealed_chunk_size * i) piece
  pub len : length piece ≡ chunk_len layout.plain i + tag_size
  pub opens : piece_opening layout.key i (nat_eq (i + 1) layout.count) piece ≡ opened

-- what holds of a reader between two calls: its source ends with the last piece, and the chunk kept
-- is what its piece opens to
pub record IsSound (gave : (at byte : ℕ) → Type 0) (size : Option ℕ) (s : RangeState)
    : Type 0 where
  pub end : size ≡ Some (end_of s.layout)
  pub keeps : (i : ℕ) → s.index ≡ Some i → PieceOpens gave s.layout i (Some (kept_text s i))

-- `byte` is the byte at offset `at` of the plaintext, from the text to which its piece opens
abbrev pub IsVerifiedByte : (gave : (at byte : ℕ) → Type 0) (layout : Layout) (at byte : ℕ)
    → Type 0
IsVerifiedByte gave layout at byte =
    (text : Bytes) × PieceOpens gave layout (at / chunk_size) (Some text)
    × (slice_get text (at % chunk_size) ≡ Some byte)

-- the length of a range of at most n bytes from `at` on
abbrev pub range_len : (s : RangeState) (at n : ℕ) → ℕ
range_len s at n = min n (s.layout.plain - at)

-- xs are the known plaintext's bytes from offset `at` on
abbrev pub HasPlain : (told : Known) (layout : Layout) (at : ℕ) (xs : Bytes) → Type 0
HasPlain told layout at xs = IsSlice layout.key (bytes_from told layout.first) at xs

-- the buffer begins with n bytes of the plaintext from `at` on, and the rest of it is unchanged
pub record Fills (gave : (at byte : ℕ) → Type 0) (layout : Layout) (at n : ℕ) (old new : Bytes)
    : Type 0 where
  pub bytes : (k : ℕ) → k < n → IsVerifiedByte gave layout (at + k) (slice_index new k)
  pub rest : drop n new ≡ drop n old

-- chunk i does not open, or a read failed
abbrev pub IsLost : (gave : (at byte : ℕ) → Type 0) (layout : Layout) (i : ℕ)
    (fault : StreamFault) → Type 0
IsLost gave layout i fault =
    (fault ≡ Read) ⊎ ((fault ≡ BadChunk i) × PieceOpens gave layout i None)

-- chunk i is the chunk kept
abbrev pub is_kept : (index : Option ℕ) (i : ℕ) → Bool
is_kept None i = false
is_kept (Some k) i = nat_eq k i

-- the first chunk of a range from `at` on that is not the chunk kept
abbrev pub first_to_open : (index : Option ℕ) (at : ℕ) → ℕ
first_to_open index at = at / chunk_size + (if is_kept index (at / chunk_size) then 1 else 0)

-- the count of opened chunks rose by at least n, saturating at the largest u64
abbrev pub OpenedAtLeast : (s : RangeState) (opened n : ℕ) → Type 0
OpenedAtLeast s opened n = min (s.opened + n) (2 ^ 64 - 1) ≤ opened

-- a range of n bytes, at least one, from `at` on stops at `chunk`, which holds some of them: those
-- before it were copied, and each chunk up to it counts as opened, except the first if it was kept
pub record Stops (gave : (at byte : ℕ) → Type 0) (s : RangeState) (at n : ℕ) (old new : Bytes)
    (opened : ℕ) (fault : StreamFault) : Type 0 where
  pub some : 0 < n
  pub chunk : ℕ
  pub from : at < chunk_size * (chunk + 1)
  pub to : chunk_size * chunk < at + n
  pub filled : Fills gave s.layout at (chunk_size * chunk - at) old new
  pub lost : IsLost gave s.layout chunk fault
  pub counts : OpenedAtLeast s opened (chunk + 1 - first_to_open s.index at)

-- the number of sealed bytes of the chunks with the numbers from `from` to `end` - 1
abbrev pub sealed_span : (layout : Layout) (from end : ℕ) → ℕ
sealed_span layout from end =
    min (sealed_chunk_size * end) (layout.plain + tag_size * layout.count)
    - sealed_chunk_size * from

-- what a call on a reader of ranges may change: its source, its chunks, and the caller's buffer
pub record RangeParts (D : Type 0) : Type 0 where
  pub source : D
  pub chunks : RangeState
  pub buf : Bytes

-- One call for the range from `at` on that the buffer has room for. `told` are the source's
-- contents, `count_given` and `failed` its counts, and `gave` the bytes read from it.
pub record ReadsRange {D : Type 0} (told : D → Known) (count_given failed : D → ℕ)
    (gave : D → (at byte : ℕ) → Type 0) (at : ℕ) (old new : RangeParts D)
    (r : Result ℕ StreamFault) : Type 0 where
  -- kept by every call, so that the clauses hold for every list of calls
  pub stay : told new.source ≡ told old.source
  pub stays_given : StaysGiven (gave old.source) (gave new.source)
  pub same : new.chunks.layout ≡ old.chunks.layout
  pub number : IfOk r (λ n. n ≡ range_len old.chunks at (length old.buf))
  pub filled : IfOk r (λ n. Fills (gave new.source) old.chunks.layout at n old.buf new.buf)
  pub stop : IfErr r (Stops (gave new.source) old.chunks at
      (range_len old.chunks at (length old.buf)) old.buf new.buf new.chunks.opened)
  pub count : CountsIf is_read (failed old.source) (failed new.source) r
  -- after a nonempty range its last chunk is kept, after a fault no chunk is
  pub kept_chunk : IfOk r
      (λ n. 0 < n → new.chunks.index ≡ Some ((at + n - 1) / chunk_size))
  pub none : OnErr r (new.chunks.index ≡ None)
  -- The count of opened chunks never falls. It rises, saturating, for each chunk that is tried, but
  -- at most by the number of chunks that the range touches, not counting the first if it was kept.
  -- At most as many bytes are read as the pieces of the chunks so counted have.
  pub rises : old.chunks.opened ≤ new.chunks.opened
  pub counts : IfOk r (λ n. 0 < n → OpenedAtLeast old.chunks new.chunks.opened
      ((at + n - 1) / chunk_size + 1 - first_to_open old.chunks.index at))
  pub opened : (end : ℕ) → at + range_len old.chunks at (length old.buf) ≤ chunk_size * end
      → new.chunks.opened ≤ old.chunks.opened + (end - first_to_open old.chunks.index at)
  pub given : (end : ℕ) → at + range_len old.chunks at (length old.buf) ≤ chunk_size * end
      → count_given new.source
      ≤ count_given old.source
      + sealed_span old.chunks.layout (first_to_open old.chunks.index at) end
  -- an empty range changes neither the reader nor the source
  pub empty : range_len old.chunks at (length old.buf) ≡ 0
      → (new.chunks ≡ old.chunks) × (new.source ≡ old.source)

-- the number and the length of the last piece, if all pieces together have n bytes
abbrev pub last_index : (n : ℕ) → ℕ
last_index n = (n - 1) / sealed_chunk_size

abbrev pub last_len : (n : ℕ) → ℕ
last_len n = n - sealed_chunk_size * last_index n

-- r is the outcome of the last piece, if all pieces have `sealed` bytes from offset `first` on: too
-- many pieces, or the outcome of the bytes read at the offset of that piece
abbrev pub JudgesLast : (gave : (at byte : ℕ) → Type 0) (key : Key) (max first sealed : ℕ)
    (r : Result Bytes StreamFault) → Type 0
JudgesLast gave key max first sealed r =
    ((max ≤ last_index sealed) × (r ≡ Err TooManyChunks))
    ⊎ ((piece : Bytes) × (length piece ≡ last_len sealed)
    × GaveAt gave (first + sealed_chunk_size * last_index sealed) piece
    × (outcome key max (last_index sealed) true piece ≡ r))

-- The payload at offset `at`: its key is derived from the nonce read there, its pieces are the
-- `sealed` bytes from `first` to the end of the source, and r is the outcome of the last piece.
pub record BeginsAt (file_key : FileKey) (max at : ℕ) (gave : (at byte : ℕ) → Type 0)
    (size : Option ℕ) (key : Key) (first sealed : ℕ) (r : Result Bytes StreamFault)
    : Type 0 where
  pub nonce : Bytes
  pub len : length nonce ≡ nonce_size
  pub read : GaveAt gave at nonce
  pub derived : key ≡ payload_key file_key nonce
  pub after : first ≡ at + nonce_size
  pub end : size ≡ Some (first + sealed)
  pub judges : JudgesLast gave key max first sealed r

-- a reader was opened on the payload at this offset, and keeps the last chunk
abbrev pub BeginsRanges : (file_key : FileKey) (max at : ℕ) (gave : (at byte : ℕ) → Type 0)
    (size : Option ℕ) (s : RangeState) → Type 0
BeginsRanges file_key max at gave size s =
    BeginsAt file_key max at gave size s.layout.key s.layout.first
    (s.layout.plain + tag_size * s.layout.count) (Ok (kept_text s (s.layout.count - 1)))

-- the same over known contents
pub record IsOpened (file_key : FileKey) (max : ℕ) (told : Known) (at : ℕ) (s : RangeState)
    : Type 0 where
  pub opens : range_outcome file_key max (bytes_from told at)
      ≡ Ok (kept_text s (s.layout.count - 1))
  pub key : s.layout.key ≡ payload_key file_key (take nonce_size (bytes_from told at))
  pub first : s.layout.first ≡ at + nonce_size
  pub plain : s.layout.plain ≡ plain_len (bytes_from told (at + nonce_size))
  pub there : IsThere told s.layout

-- A reader was opened. Or the fault is a failed read, out of memory, a source that ends before the
-- nonce does, or that of the last piece.
abbrev pub OpensRanges : (file_key : FileKey) (max at : ℕ) (gave : (at byte : ℕ) → Type 0)
    (size : Option ℕ) (r : Result RangeState StreamFault) → Type 0
OpensRanges file_key max at gave size (Ok s) =
    (s.index ≡ Some (s.layout.count - 1)) × (s.opened ≡ 1)
    × BeginsRanges file_key max at gave size s
OpensRanges file_key max at gave size (Err fault) =
    (fault ≡ Read)
    ⊎ ((fault ≡ Memory)
    ⊎ (((fault ≡ NonceTruncated) × ((n : ℕ) × (size ≡ Some n) × (n < at + nonce_size)))
    ⊎ ((key : Key) × (first sealed : ℕ)
    × BeginsAt file_key max at gave size key first sealed (Err fault))))

-- a fault that opening a payload may return once its buffer is allocated
abbrev pub IsOpenFault : StreamFault → Type 0
IsOpenFault Write = ⊥
IsOpenFault Memory = ⊥
IsOpenFault _ = ⊤

-- a payload was opened, or could not be: the source's contents are unchanged, and at most the nonce
-- and the last piece were read, or nothing if the size was not found
pub record Probes (source : Moved) (size : Option ℕ) (at given given2 : ℕ) : Type 0 where
  pub stay : source.after ≡ source.before
  pub most : given2 ≤ given + (nonce_size + sealed_chunk_size)
  pub last : MatchOption size (given2 ≤ given)
      (λ n. given2 ≤ given + (nonce_size + last_len (n - (at + nonce_size))))

-- The result of opening a payload for ranges, and its effect on the source. `told` are the source's
-- contents, `given` and `failed` its counts, `gave` the bytes read from it, and `found` its size.
-- If memory was refused, nothing was read.
abbrev pub StartsRanges : {D : Type 0} (told : D → Known) (given failed : D → ℕ)
    (gave : D → (at byte : ℕ) → Type 0) (found : D → Option ℕ) (file_key : FileKey)
    (max at : ℕ) (old new : D) (r : Result RangeState StreamFault) → Type 0
StartsRanges told given failed gave found file_key max at old new r =
    OpensRanges file_key max at (gave new) (found new) r
    × Probes (move_by told old new) (found new) at (given old) (given new)
    × StaysGiven (gave old) (gave new)
    × MatchResult r (λ _. failed new ≡ failed old)
    (λ fault. (IsRefusedMemory old new fault ⊎ IsOpenFault fault)
    × CountsFaultIf is_read (failed old) (failed new) fault)
