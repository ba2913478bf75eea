-- A file with another header for the same file key.
use Rattle.std.specs.Prelude.{◌≡◌, ◌⊎◌, ◌+◌, ◌≤◌, false, List, ◌++◌, ⊤, length, drop, Result, Ok, Err}
use Rattle.age_header.specs.declared.fault.HeaderFault.{HeaderFault}
use Rattle.age_header.specs.Device.{Bytes, Flow, GaveAtMost, OfGiven, WritesPart, Moved, Took, Stays}
use Rattle.age_header.specs.Header.{StanzaParts, Head}
use Rattle.age_header.specs.Mac.{header_mac}
use Rattle.age_header.specs.Verdict.{Found, HeaderVerdict}
use Rattle.age_header.specs.declared.file_key.FileKey.{FileKey}
use Rattle.age_stream.specs.Sealing.{WroteAtLeast}
use Rattle.age_file.specs.declared.fault.Fault.{Fault}
use Rattle.age_file.specs.declared.fault.Fault.TheVariants.{TooManyChunks, Read, Write, OutOfMemory}
use Rattle.age_file.specs.AgeFile.{Bounds, is_mixed}
use Rattle.age_file.specs.NewFile.{Gathering, IsRefusal}
use Rattle.age_file.specs.Verdict.{Answering, header_fault, parts_of, header_key}
use Rattle.age_file.specs.Copying.{GaveAhead, buffer_size, most_copied}

-- c is b with another header for the file key chosen: the text of the new stanzas with their MAC,
-- followed by b without its old header. The new header is within the limit, and has no `scrypt`
-- stanza beside another.
pub record Rewrapped (limits : Bounds) (answers : Answering) (b c : Bytes) : Type 0 where
  pub found : Found
  pub header : HeaderVerdict b limits.max_header (Ok found)
  pub key : FileKey
  pub chosen : header_key answers (parts_of found) ≡ Ok key
  pub stanzas : List StanzaParts
  pub unmixed : is_mixed stanzas ≡ false
  pub text : Bytes
  pub head : Head stanzas (header_mac key.0 stanzas) text
  pub fits : length text ≤ limits.max_header
  pub spelled : c ≡ text ++ drop (length found.text) b

-- the same with stanzas that the recipients may return for the file key
abbrev pub IsRewrapped : (limits : Bounds) (answers : Answering) (gathered : FileKey → Gathering)
    (b c : Bytes) → Type 0
IsRewrapped limits answers gathered b c =
    (new : Rewrapped limits answers b c) × gathered new.key (Ok new.stanzas)

-- the first fault of an old header with this verdict, up to the MAC, or else the new header's
abbrev pub IsRefusedBy : (limits : Bounds) (answers : Answering) (gathered : FileKey → Gathering)
    (result : Result Found HeaderFault) (fault : Fault) → Type 0
IsRefusedBy limits answers gathered (Err e) fault = fault ≡ header_fault e
IsRefusedBy limits answers gathered (Ok found) fault =
    (header_key answers (parts_of found) ≡ Err fault)
    ⊎ ((key : FileKey) × (header_key answers (parts_of found) ≡ Ok key)
    × IsRefusal limits key (gathered key) fault)

abbrev pub RefusesRewrap : (limits : Bounds) (answers : Answering) (gathered : FileKey → Gathering)
    (b : Bytes) (fault : Fault) → Type 0
RefusesRewrap limits answers gathered b fault =
    (header : Result Found HeaderFault) × HeaderVerdict b limits.max_header header
    × IsRefusedBy limits answers gathered header fault

-- a prefix of the rewrapped file was written
abbrev pub BeginsRewrapped : (limits : Bounds) (answers : Answering)
    (gathered : FileKey → Gathering) (b : Bytes) (sink : Moved) → Type 0
BeginsRewrapped limits answers gathered b sink =
    (c : Bytes) × IsRewrapped limits answers gathered b c × WritesPart sink c

-- The result and the output of rewrapping b. If a write failed, a prefix of the rewrapped file was
-- written; if a read failed, nothing or a prefix. `TooManyChunks` is returned only if the source
-- has 2^105 bytes or more, and a prefix of at least as many bytes was written.
abbrev pub RewrapsText : (limits : Bounds) (answers : Answering) (gathered : FileKey → Gathering)
    (b : Bytes) (sink : Moved) (result : Result (Unit {0}) Fault) → Type 0
RewrapsText limits answers gathered b sink (Ok done) =
    (c : Bytes) × IsRewrapped limits answers gathered b c × Took sink c
RewrapsText limits answers gathered b sink (Err Read) =
    Stays sink ⊎ BeginsRewrapped limits answers gathered b sink
RewrapsText limits answers gathered b sink (Err Write) =
    BeginsRewrapped limits answers gathered b sink
RewrapsText limits answers gathered b sink (Err TooManyChunks) =
    BeginsRewrapped limits answers gathered b sink × (most_copied ≤ length b)
    × WroteAtLeast most_copied sink
RewrapsText limits answers gathered b sink (Err OutOfMemory) = ⊤
RewrapsText limits answers gathered b sink (Err fault) =
    RefusesRewrap limits answers gathered b fault

-- the same for the bytes read from the source
abbrev pub Rewraps : (limits : Bounds) (answers : Answering) (gathered : FileKey → Gathering)
    (source : Flow) (sink : Moved) (r : Result (Unit {0}) Fault) → Type 0
Rewraps limits answers gathered source sink r =
    OfGiven source (λ b. RewrapsText limits answers gathered b sink r)

-- How much of the source was read at a fault: at a failed write, or too many chunks, at most
-- `max_header` + 65,536 bytes more than were written; at any other fault except a failed read, at
-- most `max_header` bytes.
abbrev pub TookWhileRewrapping : (limits : Bounds) (source : Flow) (sink : Moved) (fault : Fault)
    → Type 0
TookWhileRewrapping limits source sink Read = ⊤
TookWhileRewrapping limits source sink Write =
    GaveAhead (limits.max_header + buffer_size) source sink
TookWhileRewrapping limits source sink TooManyChunks =
    GaveAhead (limits.max_header + buffer_size) source sink
TookWhileRewrapping limits source sink _ = GaveAtMost limits.max_header source
