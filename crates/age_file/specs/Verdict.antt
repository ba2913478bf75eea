-- The verdict on bytes, for given identities and limits: a plaintext, or the first fault and the
-- plaintext before it.
use Rattle.std.specs.Prelude.{◌≡◌, ◌⊎◌, Bool, true, List, length, drop, map, option_map, Result, Ok, Err, if◌then◌else◌}
use Rattle.std.specs.Result.{result_map_both}
use Rattle.std.specs.Str.{bytes_eq}
use Rattle.age_header.specs.Device.{Bytes}
use Rattle.age_header.specs.declared.fault.HeaderFault.{HeaderFault}
use Rattle.age_header.specs.declared.fault.HeaderFault.TheVariants as header
use Rattle.age_header.specs.Header.{StanzaParts, HeaderParts}
use Rattle.age_header.specs.Mac.{header_mac}
use Rattle.age_header.specs.Verdict.{Found, HeaderVerdict}
use Rattle.age_recipient.specs.declared.choice.UnlockFault.{UnlockFault}
use Rattle.age_recipient.specs.declared.choice.UnlockFault.TheVariants as unlock
use Rattle.age_header.specs.declared.file_key.FileKey.{FileKey}
use Rattle.age_recipient.specs.declared.unwrapped.Unwrapped.{Unwrapped}
use Rattle.age_recipient.specs.Choice.{choice, lacks_memory}
use Rattle.age_stream.specs.declared.fault.StreamFault.{StreamFault}
use Rattle.age_stream.specs.declared.fault.StreamFault.TheVariants as stream
use Rattle.age_stream.specs.Reading.{Reading, stop, payload_reading}
use Rattle.age_file.specs.declared.fault.Fault.{Fault}
use Rattle.age_file.specs.declared.fault.Fault.TheVariants.{NotAge, BadLine, HeaderTruncated, HeaderTooLarge, MixedPassphrase, NoMatch, WrongKey, Malformed, BadMac, NonceTruncated, ChunkShort, EmptyFinal, BadChunk, TooManyChunks, Read, Write, OutOfMemory}
use Rattle.age_file.specs.AgeFile.{Bounds, is_mixed}

-- the `Fault` for a fault of the header
abbrev pub header_fault : HeaderFault → Fault
header_fault header.NotAge = NotAge
header_fault (header.BadLine n) = BadLine n
header_fault header.Truncated = HeaderTruncated
header_fault header.TooLarge = HeaderTooLarge
header_fault header.Read = Read
header_fault header.Memory = OutOfMemory

-- the `Fault` for the reason why no key was found
abbrev pub unlock_fault : UnlockFault → Fault
unlock_fault unlock.NoMatch = NoMatch
unlock_fault unlock.WrongKey = WrongKey
unlock_fault (unlock.Malformed fault) = Malformed fault
unlock_fault unlock.Memory = OutOfMemory

-- the `Fault` for a fault of the payload
abbrev pub stream_fault : StreamFault → Fault
stream_fault stream.NonceTruncated = NonceTruncated
stream_fault (stream.ChunkShort i) = ChunkShort i
stream_fault (stream.EmptyFinal i) = EmptyFinal i
stream_fault (stream.BadChunk i) = BadChunk i
stream_fault stream.TooManyChunks = TooManyChunks
stream_fault stream.Read = Read
stream_fault stream.Write = Write
stream_fault stream.Memory = OutOfMemory

-- the stanzas and the MAC of a header that was found
abbrev pub parts_of : Found → HeaderParts
parts_of found = record { stanzas = found.stanzas; mac = found.mac }

-- a header with its text
abbrev pub finding : (text : Bytes) (h : HeaderParts) → Found
finding text h = record { stanzas = h.stanzas; mac = h.mac; text = text }

-- a payload's reading, with its fault as a `Fault`
abbrev pub with_file_fault : Reading StreamFault → Reading Fault
with_file_fault r = record { plaintext = r.plaintext; fault = option_map stream_fault r.fault }

-- the answers of identities to each list of stanzas: one for each identity, in order
abbrev pub Answering : Type 0
Answering = List StanzaParts → List Unwrapped

-- the answers of these identities, each by its meaning
abbrev pub answers_by : {I : Type 0} (identities : List I)
    (meaning : I → List StanzaParts → Unwrapped) → Answering
answers_by identities meaning = λ stanzas. map (λ i. meaning i stanzas) identities

-- the key chosen for a header, and whether its MAC is right under that key; or why there is no key
abbrev pub found_key : (answers : Answering) (h : HeaderParts) → Result (FileKey × Bool) Fault
found_key answers h = if is_mixed h.stanzas then Err MixedPassphrase
    else result_map_both (λ k. (k, bytes_eq h.mac (header_mac k.0 h.stanzas))) unlock_fault
    (choice (answers h.stanzas))

-- Unlocking may return out of memory only if an identity may run out and none before it decides, or
-- if the identities choose a key, because the MAC is then computed under that key.
abbrev pub MayLackMemory : (answers : List Unwrapped) (may_run_out : List Bool) → Type 0
MayLackMemory answers may_run_out =
    (lacks_memory answers may_run_out ≡ true) ⊎ ((k : FileKey) × (choice answers ≡ Ok k))

-- the key found if the MAC is right under it, and `BadMac` if not; or the fault of finding it
abbrev pub if_right : Result (FileKey × Bool) Fault → Result FileKey Fault
if_right (Err fault) = Err fault
if_right (Ok found) = if found.1 then Ok found.0 else Err BadMac

-- the file key of a header, or the first fault up to the MAC
abbrev pub header_key : (answers : Answering) (h : HeaderParts) → Result FileKey Fault
header_key answers h = if_right (found_key answers h)

-- the reading of the bytes after a header, given the file key or a fault
abbrev pub reading_under : (limits : Bounds) (rest : Bytes) (result : Result FileKey Fault)
    → Reading Fault
reading_under limits rest (Err fault) = stop fault
reading_under limits rest (Ok k) = with_file_fault (payload_reading k limits.max_chunks rest)

-- the reading of b, given its header verdict
abbrev pub reading_after : (limits : Bounds) (answers : Answering) (b : Bytes)
    (result : Result Found HeaderFault) → Reading Fault
reading_after limits answers b (Err fault) = stop (header_fault fault)
reading_after limits answers b (Ok found) =
    reading_under limits (drop (length found.text) b) (header_key answers (parts_of found))

-- The verdict on b: the whole plaintext, or the first fault and the plaintext before it.
pub record IsVerdict (limits : Bounds) (answers : Answering) (b : Bytes) (verdict : Reading Fault)
    : Type 0 where
  pub header : Result Found HeaderFault
  pub header_verdict : HeaderVerdict b limits.max_header header
  pub is : verdict ≡ reading_after limits answers b header
