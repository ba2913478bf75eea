-- Opening a file for ranges of its plaintext.
use Rattle.std.specs.Prelude.{◌≡◌, ◌⊎◌, ℕ, ◌+◌, ◌*◌, ◌-◌, ◌^◌, ◌≤◌, min, length, take, drop, IfSome, ⊤, Option, Some, Result, Ok, Err}
use Rattle.std.specs.Result.{result_map_both}
use Rattle.age_header.specs.Device.{Bytes, CountsFaultIf, Known, Moved, move_by}
use Rattle.age_header.specs.declared.fault.HeaderFault.{HeaderFault}
use Rattle.age_header.specs.Header.{HeaderParts}
use Rattle.age_header.specs.Verdict.{Found, HeaderVerdict}
use Rattle.age_header.specs.declared.file_key.FileKey.{FileKey}
use Rattle.age_stream.specs.Offsets.{GaveAt}
use Rattle.age_stream.specs.Ranges.{BeginsRanges, RangeState, last_len}
use Rattle.age_stream.specs.Slice.{range_outcome}
use Rattle.age_file.specs.declared.fault.Fault.{Fault}
use Rattle.age_file.specs.declared.fault.Fault.TheVariants.{IncompatibleRecipients, NoRecipients, NonceTruncated, OutOfMemory, Read, Refused, Write}
use Rattle.age_file.specs.AgeFile.{Bounds}
use Rattle.age_file.specs.Device.{IsLate, is_read}
use Rattle.age_file.specs.Verdict.{Answering, finding, header_fault, parts_of, stream_fault, header_key}
use Rattle.age_stream.specs.Sizes.{tag_size}

-- a source that is read at offsets, from its first byte on, and the next offset
pub record AtState (D : Type 0) : Type 0 where
  pub dev : D
  pub at : ℕ

-- `at` is the number of these bytes, at most the largest u64; that many were read from offset 0 on
abbrev pub GaveFirst : (gave : (at byte : ℕ) → Type 0) (at : ℕ) (bytes : Bytes) → Type 0
GaveFirst gave at bytes = (at ≡ min (length bytes) (2 ^ 64 - 1)) × GaveAt gave 0 (take at bytes)

-- the offset is not past the end of the known bytes
abbrev pub IsWithin : (told : Known) (at : ℕ) → Type 0
IsWithin told at = IfSome told (λ bytes. at ≤ length bytes)

-- a fault that opening a file for ranges may return: never that of a write or of recipients
abbrev pub IsOpenFault : Fault → Type 0
IsOpenFault Write = ⊥
IsOpenFault NoRecipients = ⊥
IsOpenFault (Refused i code) = ⊥
IsOpenFault (IncompatibleRecipients i) = ⊥
IsOpenFault _ = ⊤

-- this header was read from the source's first byte on, and `at` is the next offset
pub record GaveHeader (limits : Bounds) (gave : (at byte : ℕ) → Type 0) (at : ℕ) (h : HeaderParts)
    : Type 0 where
  pub text : Bytes
  pub len : length text ≡ at
  pub read : GaveAt gave 0 text
  pub verdict : HeaderVerdict text limits.max_header (Ok (finding text h))

-- the fault is `Read`, `OutOfMemory`, or that of the header at the start of the known bytes
abbrev pub MissesHeader : (limits : Bounds) (told : Known) (fault : Fault) → Type 0
MissesHeader limits told fault = (fault ≡ Read) ⊎ ((fault ≡ OutOfMemory) ⊎ IfSome told (λ b.
    (e : HeaderFault) × HeaderVerdict b limits.max_header (Err e) × (fault ≡ header_fault e)))

-- the result of opening the bytes after a header for ranges, given the file key or a fault
abbrev pub ranges_under : (limits : Bounds) (rest : Bytes) (result : Result FileKey Fault)
    → Result Bytes Fault
ranges_under limits rest (Err fault) = Err fault
ranges_under limits rest (Ok k) =
    result_map_both (λ text. text) stream_fault (range_outcome k limits.max_chunks rest)

-- the fault of b, given its header verdict
abbrev pub IsRangeFault : (limits : Bounds) (answers : Answering) (b : Bytes)
    (result : Result Found HeaderFault) (fault : Fault) → Type 0
IsRangeFault limits answers b (Err e) fault = fault ≡ header_fault e
IsRangeFault limits answers b (Ok found) fault =
    ranges_under limits (drop (length found.text) b) (header_key answers (parts_of found))
    ≡ Err fault

-- the fault is the first of the known bytes, or `Read`, or `OutOfMemory`
abbrev pub MissesRanges : (limits : Bounds) (answers : Answering) (told : Known) (fault : Fault)
    → Type 0
MissesRanges limits answers told fault =
    (fault ≡ Read)
    ⊎ ((fault ≡ OutOfMemory)
    ⊎ IfSome told (λ b. (header : Result Found HeaderFault)
    × HeaderVerdict b limits.max_header header
    × IsRangeFault limits answers b header fault))

-- A reader was opened, whether or not the source's contents are known. Its key is derived from the
-- file key chosen for the header read and from the nonce read after it. Its pieces end where the
-- source does, and the last piece, as it was read, opens to the chunk kept.
pub record BeginsFile (limits : Bounds) (answers : Answering) (gave : (at byte : ℕ) → Type 0)
    (size : Option ℕ) (chunks : RangeState) : Type 0 where
  pub header : HeaderParts
  pub at : ℕ
  pub first : GaveHeader limits gave at header
  pub key : FileKey
  pub chosen : header_key answers header ≡ Ok key
  pub begins : BeginsRanges key limits.max_chunks at gave size chunks

-- Opening a file for ranges failed with the first fault of the known bytes, a failed read or out of
-- memory. The contents are unchanged, and a failed read was counted. On a fault of the header or of
-- its key, or on `OutOfMemory`, at most as many bytes were read as a header may have.
pub record RefusesRanges (limits : Bounds) (answers : Answering) (source : Moved)
    (given given2 failed failed2 : ℕ) (fault : Fault) : Type 0 where
  pub misses : MissesRanges limits answers source.before fault
  pub named : IsOpenFault fault
  pub front : IsLate fault
      ⊎ ((fault ≡ NonceTruncated) ⊎ (given2 ≤ given + limits.max_header))
  pub stay : source.after ≡ source.before
  pub counted : CountsFaultIf is_read failed failed2 fault

-- The result of opening a file for ranges, and its effect on the source: the fault; or a reader
-- that keeps the last chunk, for which at most the header, the nonce and the last piece were read.
-- `StartsRanges` of age_stream explains the functions that are parameters here.
abbrev pub StartsFileRanges : {D : Type 0} (told : D → Known) (given failed : D → ℕ)
    (gave : D → (at byte : ℕ) → Type 0) (found : D → Option ℕ) (limits : Bounds)
    (answers : Answering) (old new : D) (r : Result RangeState Fault) → Type 0
StartsFileRanges told given failed gave found limits answers old new (Ok chunks) =
    (told new ≡ told old)
    × BeginsFile limits answers (gave new) (found new) chunks
    × (given new ≤ given old + (chunks.layout.first
    + last_len (chunks.layout.plain + tag_size * chunks.layout.count)))
    × (chunks.index ≡ Some (chunks.layout.count - 1)) × (chunks.opened ≡ 1)
    × (failed new ≡ failed old)
StartsFileRanges told given failed gave found limits answers old new (Err fault) =
    RefusesRanges limits answers (move_by told old new) (given old) (given new) (failed old)
    (failed new) fault
