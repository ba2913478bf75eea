-- Parts of a plaintext by offset. Chunks outside a part need not open (C2SP age.md, "Payload").
use Rattle.std.specs.Prelude.{ℕ, List, [], ◌+◌, ◌-◌, ◌*◌, ◌/◌, ◌%◌, ◌<◌, ◌≡◌, length, get_or, take, drop, nat_lt, true, min, slice_get, slice_index, Option, Some, None, Result, Err, if◌then◌else◌}
use Rattle.std.specs.List.{sum_by}
use Rattle.age_stream.specs.Words.{Bytes, Key, FileKey, StreamFault, NonceTruncated, nonce_size, tag_size, chunk_size}
use Rattle.age_stream.specs.Payload.{pieces, each, payload_key}
use Rattle.age_stream.specs.Reading.{piece_opening, outcome}

-- for each piece, with numbers from i on, its text if it opens, otherwise None
abbrev pub openings : (key : Key) (i : ℕ) (pieces : List Bytes) → List (Option Bytes)
openings key = each (piece_opening key)

-- the text of piece i of the bytes after the nonce, if it opens
abbrev pub opening : (key : Key) (rest : Bytes) (i : ℕ) → Option Bytes
opening key rest i = get_or (openings key 0 (pieces rest)) i None

-- the length of the plaintext: each chunk has the length of its piece less that of the tag
abbrev pub plain_len : Bytes → ℕ
plain_len rest = sum_by (λ piece. length piece - tag_size) (pieces rest)

-- the length of chunk i of a plaintext of `plain` bytes
abbrev pub chunk_len : (plain i : ℕ) → ℕ
chunk_len plain i = min chunk_size (plain - chunk_size * i)

-- xs are the plaintext's bytes from offset `at` on: for each k, piece (at + k) / chunk_size opens,
-- and byte k of xs is byte (at + k) % chunk_size of its text
abbrev pub IsSlice : (key : Key) (rest : Bytes) (at : ℕ) (xs : Bytes) → Type 0
IsSlice key rest at xs =
    (k : ℕ) → k < length xs
    → (text : Bytes) × (opening key rest ((at + k) / chunk_size) ≡ Some text)
    × (slice_get text ((at + k) % chunk_size) ≡ Some (slice_index xs k))

-- the last piece
abbrev pub last_piece : Bytes → Bytes
last_piece rest = get_or (pieces rest) (length (pieces rest) - 1) []

-- the outcome of the last piece
abbrev pub last_outcome : (key : Key) (max : ℕ) (rest : Bytes) → Result Bytes StreamFault
last_outcome key max rest = outcome key max (length (pieces rest) - 1) true (last_piece rest)

-- the result of opening a payload for ranges: `NonceTruncated`, or the outcome of the last piece
abbrev pub range_outcome : (file_key : FileKey) (max : ℕ) (text : Bytes) → Result Bytes StreamFault
range_outcome file_key max text =
    if nat_lt (length text) nonce_size then Err NonceTruncated
    else last_outcome (payload_key file_key (take nonce_size text)) max (drop nonce_size text)
