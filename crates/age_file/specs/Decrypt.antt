-- The result and the output of decrypting a file.
use Rattle.std.specs.Prelude.{◌≡◌, ℕ, ◌+◌, ◌*◌, ◌/◌, List, [], ⊤, length, drop, Some, None, Result, Ok, Err}
use Rattle.age_header.specs.declared.fault.HeaderFault.{HeaderFault}
use Rattle.age_header.specs.Device.{Bytes, Flow, GaveAtMost, OfGiven, WritesPart, Moved, Took}
use Rattle.age_header.specs.Verdict.{Found, HeaderVerdict}
use Rattle.age_stream.specs.declared.done.Done.{Done}
use Rattle.age_stream.specs.Payload.{pieces}
use Rattle.age_stream.specs.Reading.{Reading}
use Rattle.age_file.specs.declared.fault.Fault.{Fault}
use Rattle.age_file.specs.declared.fault.Fault.TheVariants.{ChunkShort, EmptyFinal, BadChunk, TooManyChunks, Read, Write, OutOfMemory}
use Rattle.age_file.specs.AgeFile.{Bounds}
use Rattle.age_file.specs.Verdict.{Answering, IsVerdict}
use Rattle.age_stream.specs.Sizes.{nonce_size, chunk_size, sealed_chunk_size}

-- the pieces of the bytes after the header and the nonce; none if there is no header
abbrev pub payload_pieces : (b : Bytes) (header : Result Found HeaderFault) → List Bytes
payload_pieces b (Ok found) = pieces (drop nonce_size (drop (length found.text) b))
payload_pieces b (Err fault) = []

-- returns a verdict's fault; or, without a fault, its plaintext's length and the number of pieces
abbrev pub ReturnsVerdict : (verdict : Reading Fault) (n : ℕ) (result : Result Done Fault) → Type 0
ReturnsVerdict verdict n (Ok done) =
    (verdict.fault ≡ None) × (done.bytes ≡ length verdict.plaintext) × (done.chunks ≡ n)
ReturnsVerdict verdict n (Err fault) = verdict.fault ≡ Some fault

-- returns the verdict on b, and writes its plaintext
abbrev pub GivesVerdict : (limits : Bounds) (answers : Answering) (b : Bytes) (sink : Moved)
    (r : Result Done Fault) → Type 0
GivesVerdict limits answers b sink r =
    (verdict : Reading Fault) × (is : IsVerdict limits answers b verdict)
    × ReturnsVerdict verdict (length (payload_pieces b is.header)) r × Took sink verdict.plaintext

-- a prefix of the verdict's plaintext was written
abbrev pub BeginsVerdict : (limits : Bounds) (answers : Answering) (b : Bytes) (sink : Moved)
    → Type 0
BeginsVerdict limits answers b sink =
    (verdict : Reading Fault) × IsVerdict limits answers b verdict
    × WritesPart sink verdict.plaintext

-- The result and the output for the bytes b: the verdict, unless a device failed or the fault is
-- `OutOfMemory`.
abbrev pub DecryptsText : (limits : Bounds) (answers : Answering) (b : Bytes) (sink : Moved)
    (r : Result Done Fault) → Type 0
DecryptsText limits answers b sink (Err Read) = BeginsVerdict limits answers b sink
DecryptsText limits answers b sink (Err Write) = BeginsVerdict limits answers b sink
DecryptsText limits answers b sink (Err OutOfMemory) = ⊤
DecryptsText limits answers b sink r = GivesVerdict limits answers b sink r

-- the same for the bytes read from the source
abbrev pub Decrypts : (limits : Bounds) (answers : Answering) (source : Flow) (sink : Moved)
    (r : Result Done Fault) → Type 0
Decrypts limits answers source sink r =
    OfGiven source (λ b. DecryptsText limits answers b sink r)

-- the source begins with a header, and at most that header, the nonce, the pieces up to and
-- including piece i, and one more byte were read
pub record TookThrough (limits : Bounds) (i : ℕ) (source : Flow) : Type 0 where
  pub found : Found
  pub header : OfGiven source (λ b. HeaderVerdict b limits.max_header (Ok found))
  pub gave : GaveAtMost (length found.text + (nonce_size + (sealed_chunk_size * (i + 1) + 1)))
      source

-- How much of the source was read if decrypting ended at piece i, or at a write after i full chunks
-- of output. Nothing is said about other faults.
abbrev pub TookUpTo : (limits : Bounds) (source : Flow) (sink : Moved) (fault : Fault) → Type 0
TookUpTo limits source sink (ChunkShort i) = TookThrough limits i source
TookUpTo limits source sink (EmptyFinal i) = TookThrough limits i source
TookUpTo limits source sink (BadChunk i) = TookThrough limits i source
TookUpTo limits source sink TooManyChunks = TookThrough limits limits.max_chunks source
TookUpTo limits source sink Write =
    (written : Bytes) × Took sink written × TookThrough limits (length written / chunk_size) source
TookUpTo limits source sink _ = ⊤
