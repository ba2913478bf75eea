-- The output and the results of the command `range`.
use Rattle.std.specs.Prelude.{◌≡◌, ◌⊎◌, ◌<◌, ◌≤◌, ◌+◌, ◌*◌}
use Rattle.age_commands.specs.Words.{ℕ, ⊤, length, slice_index, Option, Result, Ok, Err, Bytes, Moved, Took, Stays, Fault, BadChunk, Read, Write, Bounds, Answering}
use Rattle.age_stream.specs.declared.layout.Layout.{Layout}
use Rattle.age_stream.specs.Ranges.{IsVerifiedByte, RangeState, range_len}
use Rattle.age_stream.specs.Sizes.{chunk_size}
use Rattle.age_file.specs.Ranges.{BeginsFile, IsOpenFault}

-- P holds of each of these bytes, the first of which is at offset `at`
abbrev pub OfBytes : (P : (at byte : ℕ) → Type 0) (at : ℕ) (xs : Bytes) → Type 0
OfBytes P at xs = (k : ℕ) → k < length xs → P (at + k) (slice_index xs k)

-- n bytes from offset `at` on were written, and P holds of each
pub record WritesBytes (P : (at byte : ℕ) → Type 0) (at n : ℕ) (sink : Moved) : Type 0 where
  pub part : Bytes
  pub size : length part ≡ n
  pub holds : OfBytes P at part
  pub appends : Took sink part

-- a range of at most `len` bytes from `at` on includes bytes of chunk i
pub record HasBytesOf (s : RangeState) (at len i : ℕ) : Type 0 where
  pub some : 0 < range_len s at len
  pub from : at < chunk_size * (i + 1)
  pub to : chunk_size * i < at + range_len s at len

-- n bytes from offset `at` on were written, each of which was verified
abbrev pub WritesVerified : (gave : (at byte : ℕ) → Type 0) (layout : Layout) (at n : ℕ)
    (sink : Moved) → Type 0
WritesVerified gave layout at n sink = WritesBytes (IsVerifiedByte gave layout) at n sink

-- a fault with which work on an opened file may end: a damaged chunk of the range, or a failed read
-- or write
abbrev pub IsPartFault : (s : RangeState) (at len : ℕ) (fault : Fault) → Type 0
IsPartFault s at len fault =
    ((i : ℕ) × (fault ≡ BadChunk i) × HasBytesOf s at len i)
    ⊎ ((fault ≡ Read) ⊎ (fault ≡ Write))

-- Of a range of at most `len` bytes from `at` on, all were written on Ok, a prefix on a fault.
abbrev pub WritesAny : (gave : (at byte : ℕ) → Type 0) (s : RangeState) (at len : ℕ)
    (sink : Moved) (result : Result ⊤ Fault) → Type 0
WritesAny gave s at len sink (Ok _) =
    WritesVerified gave s.layout at (range_len s at len) sink
WritesAny gave s at len sink (Err fault) =
    IsPartFault s at len fault
    × ((n : ℕ) × (n ≤ range_len s at len) × WritesVerified gave s.layout at n sink)

-- the next n bytes were written; or at most `left`, as for `WritesAny`, and a fault occurred
abbrev pub WritesNextAny : (gave : (at byte : ℕ) → Type 0) (s : RangeState) (at left : ℕ)
    (sink : Moved) (result : Result ℕ Fault) → Type 0
WritesNextAny gave s at left sink (Ok n) = WritesVerified gave s.layout at n sink
WritesNextAny gave s at left sink (Err fault) = WritesAny gave s at left sink (Err fault)

-- no file was opened, and nothing was written
abbrev pub OpensNone : (sink : Moved) (result : Result ⊤ Fault) → Type 0
OpensNone sink (Ok _) = ⊥
OpensNone sink (Err fault) = IsOpenFault fault × Stays sink

-- A file was opened, under the key chosen for its header, and a part of its plaintext was written.
-- `source` is the source after the file was opened, `new` the source at the end.
pub record OpensVerified {D : Type 0} (gave : D → (at byte : ℕ) → Type 0) (found : D → Option ℕ)
    (limits : Bounds) (answers : Answering) (at len : ℕ) (new : D) (sink : Moved)
    (result : Result ⊤ Fault) : Type 0 where
  pub source : D
  pub state : RangeState
  pub begins : BeginsFile limits answers (gave source) (found source) state
  pub writes : WritesAny (gave new) state at len sink result

-- The result and the output of `range` for any source. `gave` has the bytes read from it.
abbrev pub RangingAny : {D : Type 0} (gave : D → (at byte : ℕ) → Type 0) (found : D → Option ℕ)
    (limits : Bounds) (answers : Answering) (at len : ℕ) (new : D) (sink : Moved)
    (result : Result ⊤ Fault) → Type 0
RangingAny gave found limits answers at len new sink result =
    OpensNone sink result ⊎ OpensVerified gave found limits answers at len new sink result
