-- The state of an opener of pieces between two calls, and the results of its calls.
use Rattle.std.specs.Prelude.{ℕ, List, [], ◌++◌, ◌≡◌, ◌≤◌, ◌<◌, ◌+◌, ◌*◌, ◌⊎◌, length, take, drop, option_map, IfSome, MatchResult, Bool, true, false, Option, Some, None, Result, Ok, Err, if◌then◌else◌}
use Rattle.std.specs.Bool.{OnFalse}
use Rattle.age_stream.specs.Words.{Bytes, Key, Flow, Gave, GaveAtMost, GaveSome, OfGiven, WritesPart, Moved, Took, FileKey, Done, StreamFault, NonceTruncated, ChunkShort, EmptyFinal, BadChunk, TooManyChunks, Read, Write, nonce_size, chunk_size, sealed_chunk_size, most_chunks, chunk_buf_size}
use Rattle.std.specs.Io.KnownBytes.{IsAtEnd}
use Rattle.age_stream.specs.declared.opening.Piece.{Piece}
use Rattle.age_stream.specs.Payload.{payload_key, pieces}
use Rattle.age_stream.specs.Reading.{Reading, after_first, first_outcome, reading_from, whole}

-- An opener: its key and limit, the number of the next piece, the bytes of that piece already read
-- (None after the last piece or a fault), the text just opened, and the fault that it keeps.
pub record OpenerState : Type 0 where
  pub key : Key
  pub max_chunks : ℕ
  pub index : ℕ
  pub held : Option Bytes
  pub text : Bytes
  pub fault : Option StreamFault

-- before piece 0
abbrev pub at_start : (key : Key) (max : ℕ) → OpenerState
at_start key max =
    record { key = key; max_chunks = max; index = 0; held = Some []; text = []; fault = None }

-- bytes read ahead, if another piece follows
abbrev pub held_of : (more : Bool) (ahead : Bytes) → Option Bytes
held_of more ahead = if more then Some ahead else None

-- the number of bytes read ahead
abbrev pub ahead_len : Option Bytes → ℕ
ahead_len None = 0
ahead_len (Some ahead) = length ahead

-- the rest of a payload: `held`, already read, and then d, still to come; None if no piece is left
abbrev pub left_of : (held : Option Bytes) (d : Bytes) → Option Bytes
left_of held d = option_map (λ h. h ++ d) held

-- The first piece of `found` opens as piece i, and `left` is the rest; or its fault is returned. If
-- `found` is None, after the last piece, the result is Ok(false).
abbrev pub OpensNext : (key : Key) (max i : ℕ) (found left : Option Bytes) (text : Bytes)
    (r : Result Bool StreamFault) → Type 0
OpensNext key max i None left text r = (r ≡ Ok false) × (left ≡ None)
OpensNext key max i (Some c) left text (Ok some) =
    (some ≡ true) × (first_outcome key max i c ≡ Ok text) × (left ≡ after_first c)
OpensNext key max i (Some c) left text (Err fault) = first_outcome key max i c ≡ Err fault

-- a fault at piece i
abbrev pub IsAtPiece : (max i : ℕ) (fault : StreamFault) → Type 0
IsAtPiece max i (ChunkShort j) = j ≡ i
IsAtPiece max i (EmptyFinal j) = j ≡ i
IsAtPiece max i (BadChunk j) = j ≡ i
IsAtPiece max i TooManyChunks = i ≡ max
IsAtPiece max i _ = ⊥

-- the number of the next piece: one more if a piece was opened
abbrev pub next_index : (some : Bool) (i : ℕ) → ℕ
next_index some i = if some then i + 1 else i

-- The state after a call. On Ok no fault is kept, and if another piece follows, one byte of it was
-- read and the text is a full chunk. On Err a fault at the piece tried is kept; the text is empty.
abbrev pub KeepsState : (old new : OpenerState) (result : Result Bool StreamFault) → Type 0
KeepsState old new (Ok some) =
    (new.fault ≡ None) × (new.index ≡ next_index some old.index)
    × (some ≡ true → old.index < old.max_chunks)
    × IfSome new.held (λ ahead. (length ahead ≡ 1) × (length new.text ≡ chunk_size))
KeepsState old new (Err fault) =
    (new.fault ≡ Some fault) × (new.text ≡ []) × IsAtPiece old.max_chunks old.index fault

-- no text is left, and no byte of another piece
abbrev pub IsSpent : OpenerState → Type 0
IsSpent s = (s.text ≡ []) × (s.held ≡ None)

-- after Ok(false), and after a fault, no text is left, and no byte of another piece
abbrev pub IsSpentAfter : (s : OpenerState) (r : Result Bool StreamFault) → Type 0
IsSpentAfter s r = MatchResult r (λ some. OnFalse some (IsSpent s)) (λ _. IsSpent s)

-- the bytes read after those held fill the buffer, or are all up to the end of the source; after
-- the last piece none are read
abbrev pub IsFilled : (held : Option Bytes) (given : Bytes) (source : Flow) → Type 0
IsFilled None given source = (given ≡ []) × (source.after.to_come ≡ source.before.to_come)
IsFilled (Some ahead) given source =
    (length ahead + length given ≤ chunk_buf_size)
    × (length ahead + length given < chunk_buf_size → IsAtEnd source.after.to_come)

-- another piece was left, and the source returned 0 or more bytes
abbrev pub Loses : (held : Option Bytes) (source : Flow) → Type 0
Loses None source = ⊥
Loses (Some ahead) source = GaveSome source

-- One call of an opener that keeps no fault. From the bytes held and then those read it opens the
-- next piece, and holds what follows; or it returns the piece's fault, or Ok(false) after the last.
pub record Advances (old new : OpenerState) (source : Flow)
    (r : Result Bool StreamFault) : Type 0 where
  pub key : new.key ≡ old.key
  pub max_chunks : new.max_chunks ≡ old.max_chunks
  pub small : old.max_chunks ≤ most_chunks
  pub keeps : KeepsState old new r
  pub ahead : ahead_len old.held ≤ 1
  pub given : Bytes
  pub gave : Gave source given
  pub filled : IsFilled old.held given source
  pub opens : OpensNext old.key old.max_chunks old.index (left_of old.held given) new.held new.text
      r

-- the nonce was read, or the source has fewer than 16 bytes, or a read failed
abbrev pub GivesNonce : (source : Flow) (result : Result Bytes StreamFault) → Type 0
GivesNonce source (Ok nonce) = Gave source nonce
GivesNonce source (Err Read) = GaveSome source
GivesNonce source (Err fault) =
    (fault ≡ NonceTruncated) × OfGiven source (λ c. length c < nonce_size)

-- the nonce of a payload was read, and the opener has the key derived from it, and is before piece
-- 0; or the nonce is incomplete, or a read failed
abbrev pub Starts : (file_key : FileKey) (max : ℕ) (source : Flow)
    (result : Result OpenerState StreamFault) → Type 0
Starts file_key max source (Ok opener) =
    (nonce : Bytes) × (length nonce ≡ nonce_size)
    × (opener ≡ at_start (payload_key file_key nonce) max) × GivesNonce source (Ok nonce)
Starts file_key max source (Err fault) = GivesNonce source (Err fault)

-- the reading of the rest, from piece i on
abbrev pub reading_left : (key : Key) (max i : ℕ) (left : Option Bytes) → Reading StreamFault
reading_left key max i None = whole []
reading_left key max i (Some c) = reading_from key max i c

-- the pieces of the rest
abbrev pub pieces_left : Option Bytes → List Bytes
pieces_left None = []
pieces_left (Some c) = pieces c

-- A reading's plaintext was written; its fault was returned, or else the plaintext's length and n,
-- the number of pieces. Or a device failed, and a prefix of the plaintext was written.
abbrev pub WritesReading : (reading : Reading StreamFault) (n : ℕ) (sink : Moved)
    (result : Result Done StreamFault) → Type 0
WritesReading reading n sink (Ok done) =
    (reading.fault ≡ None) × Took sink reading.plaintext × (done.bytes ≡ length reading.plaintext)
    × (done.chunks ≡ n)
WritesReading reading n sink (Err Read) = WritesPart sink reading.plaintext
WritesReading reading n sink (Err Write) = WritesPart sink reading.plaintext
WritesReading reading n sink (Err fault) = (reading.fault ≡ Some fault)
    × Took sink reading.plaintext

-- the same for the reading of the bytes held and then those of the source
abbrev pub WritesAll : (s : OpenerState) (source : Flow) (sink : Moved)
    (r : Result Done StreamFault) → Type 0
WritesAll s source sink r =
    OfGiven source (λ c. WritesReading (reading_left s.key s.max_chunks s.index (left_of s.held c))
    (length (pieces_left (left_of s.held c))) sink r)

-- A fault of a piece or of a write: the piece, the text written so far, and a limit on the bytes
-- read from the source. `before` is 16 if they include the payload's nonce, otherwise 0.
pub record EndsAt (max before : ℕ) (source : Flow) (sink : Moved)
    (fault : StreamFault) : Type 0 where
  pub piece : ℕ
  pub text : Bytes
  pub written : Took sink text
  pub at : ((fault ≡ Write) × (chunk_size * piece ≤ length text)) ⊎ IsAtPiece max piece fault
  pub gave : GaveAtMost (before + (sealed_chunk_size * (piece + 1) + 1)) source

-- on Ok(n) the outcome of a piece is the first n bytes of the buffer; on Err it is this fault
abbrev pub GivesText : (outcome : Result Bytes StreamFault) (after : Bytes)
    (result : Result ℕ StreamFault) → Type 0
GivesText outcome after (Ok n) = (outcome ≡ Ok (take n after)) × (n ≤ length after)
GivesText outcome after (Err fault) = outcome ≡ Err fault

-- the first piece of c, as piece i, opens to the text at the start of the buffer, and the bytes
-- after the piece are at the end of the buffer; or its fault is returned
abbrev pub OpensPiece : (key : Key) (max i : ℕ) (c after : Bytes)
    (result : Result Piece StreamFault) → Type 0
OpensPiece key max i c after (Ok p) =
    (first_outcome key max i c ≡ Ok (take p.len after)) × (p.len ≤ length after)
    × (held_of p.more (drop sealed_chunk_size after) ≡ after_first c)
OpensPiece key max i c after (Err fault) = first_outcome key max i c ≡ Err fault

-- The buffer begins with n bytes, at most `size` + 1: those held, then those read from the source.
-- If n is at most `size`, the source is at its end.
pub record ReadsAhead (size : ℕ) (held : Bytes) (n : ℕ) (after : Bytes)
    (source : Flow) : Type 0 where
  pub given : Bytes
  pub gave : Gave source given
  pub is : take n after ≡ held ++ given
  pub room : n ≤ size + 1
  pub end : n < size + 1 → IsAtEnd source.after.to_come

-- `OpensPiece` for the bytes read ahead and then those that the source returned
pub record ReadsPiece (key : Key) (max i : ℕ) (ahead after : Bytes) (source : Flow)
    (result : Result Piece StreamFault) : Type 0 where
  pub given : Bytes
  pub gave : Gave source given
  pub filled : IsFilled (Some ahead) given source
  pub opens : OpensPiece key max i (ahead ++ given) after result
