-- The reading of a payload: the first fault, and the plaintext before it (C2SP age.md, "Payload").
use Rattle.std.specs.Prelude.{ℕ, List, [], ◌∷◌, ◌++◌, ◌&&◌, Bool, length, take, drop, nat_lt, nat_le, nat_eq, Option, Some, None, Result, Ok, Err, ok_or, if◌then◌else◌}
use Rattle.age_stream.specs.Words.{Bytes, Key, opened_text, FileKey, StreamFault, NonceTruncated, ChunkShort, EmptyFinal, BadChunk, TooManyChunks, nonce_size, tag_size, sealed_chunk_size}
use Rattle.age_stream.specs.Payload.{pieces, chunk_nonce, each, payload_key}

-- the text that piece i opens to under its number, if it opens
abbrev pub piece_opening : (key : Key) (i : ℕ) (last : Bool) (piece : Bytes) → Option Bytes
piece_opening key i last piece = opened_text key (chunk_nonce i last) [] piece

-- the outcome of piece i: the first fault that applies, or its text
unfoldable pub outcome : (key : Key) (max i : ℕ) (last : Bool) (piece : Bytes)
    → Result Bytes StreamFault
outcome key max i last piece =
    if nat_le max i then Err TooManyChunks
    else if nat_lt (length piece) tag_size then Err (ChunkShort i)
    else if last && nat_lt 0 i && nat_eq (length piece) tag_size then Err (EmptyFinal i)
    else ok_or (piece_opening key i last piece) (BadChunk i)

-- the outcome of each piece, with numbers from i on
abbrev pub outcomes : (key : Key) (max : ℕ) → ℕ → List Bytes → List (Result Bytes StreamFault)
outcomes key max = each (outcome key max)

-- the first fault, if there is one
abbrev pub first_fault : {F : Type 0} → List (Result Bytes F) → Option F
first_fault [] = None
first_fault (Ok text ∷ more) = first_fault more
first_fault (Err fault ∷ more) = Some fault

-- the texts before the first fault, concatenated
abbrev pub plaintext_of : {F : Type 0} → List (Result Bytes F) → Bytes
plaintext_of [] = []
plaintext_of (Ok text ∷ more) = text ++ plaintext_of more
plaintext_of (Err fault ∷ more) = []

-- a reading: some plaintext, then a fault or the end
pub record Reading (F : Type 0) : Type 0 where
  pub plaintext : Bytes
  pub fault : Option F

-- a fault before any plaintext
abbrev pub stop : {F : Type 0} → F → Reading F
stop fault = record { plaintext = []; fault = Some fault }

-- a plaintext without a fault
abbrev pub whole : {F : Type 0} → Bytes → Reading F
whole plain = record { plaintext = plain; fault = None }

-- the reading of a text as the pieces from number i on
abbrev pub reading_from : (key : Key) (max i : ℕ) (rest : Bytes) → Reading StreamFault
reading_from key max i rest =
    let all = outcomes key max i (pieces rest) in
    record { plaintext = plaintext_of all; fault = first_fault all }

-- the reading of a payload under a file key: its nonce, then its pieces
abbrev pub payload_reading : (file_key : FileKey) (max : ℕ) (text : Bytes) → Reading StreamFault
payload_reading file_key max text =
    if nat_lt (length text) nonce_size then stop NonceTruncated
    else reading_from (payload_key file_key (take nonce_size text)) max 0 (drop nonce_size text)

-- the outcome of the first piece of c as piece i, which is the last if no byte follows it
abbrev pub first_outcome : (key : Key) (max i : ℕ) (c : Bytes) → Result Bytes StreamFault
first_outcome key max i c =
    outcome key max i (nat_le (length c) sealed_chunk_size) (take sealed_chunk_size c)

-- the bytes after the first piece of c, if there are any
abbrev pub after_first : Bytes → Option Bytes
after_first c =
    if nat_le (length c) sealed_chunk_size then None else Some (drop sealed_chunk_size c)
