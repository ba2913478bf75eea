-- Saving what is left of a payload if some chunks do not open.
use Rattle.std.specs.Prelude.{ℕ, zero, suc, ◌+◌, ◌-◌, ◌≡◌, ◌≤◌, ◌<◌, ◌&&◌, ⊤, List, [], ◌∷◌, ◌++◌, Bool, true, false, not, length, map, take, drop, replicate, nat_eq, nat_le, nat_lt, IfSome, Option, Some, None, Result, Ok, Err, if◌then◌else◌}
use Rattle.std.specs.List.{concat}
use Rattle.age_stream.specs.Words.{Bytes, Key, Flow, Moved, OfGiven, Took, FileKey, StreamFault, NonceTruncated, TooManyChunks, Read, Write, Memory, nonce_size, sealed_chunk_size, tag_size}
use Rattle.age_stream.specs.Sizes.{max_padding}
use Rattle.age_stream.specs.declared.salvaged.LostChunk.{LostChunk}
use Rattle.age_stream.specs.declared.salvaged.Salvaged.{Salvaged}
use Rattle.age_stream.specs.declared.salvaged.Saved.{Saved}
use Rattle.age_stream.specs.declared.salvaged.Saved.TheVariants.{Chunk, LastChunk, Padded, Early, Zeros, Nothing}
use Rattle.age_stream.specs.Opening.{EndsAt}
use Rattle.age_stream.specs.Payload.{each, payload_key, pieces}
use Rattle.age_stream.specs.Reading.{piece_opening}

-- the part of the saved text that stands for a piece
pub record Part : Type 0 where
  pub text : Bytes
  pub saved : Saved

-- as many zeros as the piece has text
abbrev pub lost_part : (piece : Bytes) → Part
lost_part piece = record {
  text = replicate (length piece - tag_size) 0;
  saved = if nat_le (length piece) tag_size then Nothing else Zeros;
}

-- the text of a piece that opens, or else another part
abbrev pub opening_or : (saved : Saved) (opening : Option Bytes) (other : Part) → Part
opening_or saved (Some text) other = record { text = text; saved = saved }
opening_or saved None other = other

-- a piece of `len` bytes that opens as the chunk of its position; only chunk 0 may be the last and
-- empty
abbrev pub in_place : (i : ℕ) (last : Bool) (len : ℕ) → Saved
in_place i false len = Chunk
in_place i true len = if nat_lt 0 i && nat_eq len tag_size then Early else LastChunk

-- a piece that opens with the other value of the last-chunk byte in the nonce
abbrev pub out_of_place : (last : Bool) → Saved
out_of_place last = if last then Chunk else Early

-- Piece i as the last chunk and then k bytes of padding, or k + 1, and so on up to k + n - 1: the
-- first of these that opens; if none opens, zeros.
unfoldable pub padded_part : (key : Key) (i k n : ℕ) (piece : Bytes) → Part
padded_part key i k zero piece = lost_part piece
padded_part key i k (suc n) piece =
    opening_or (Padded k) (piece_opening key i true (take (length piece - k) piece))
    (padded_part key i (k + 1) n piece)

-- a piece that opens neither as the last chunk nor as another
abbrev pub closed_part : (key : Key) (i : ℕ) (last : Bool) (piece : Bytes) → Part
closed_part key i false piece = lost_part piece
closed_part key i true piece = padded_part key i 1 max_padding piece

-- Piece i as the chunk of its position; if that fails, with the other value of the last-chunk byte;
-- if that fails too, and it is the last, without the padding behind it; otherwise zeros.
abbrev pub part : (key : Key) (i : ℕ) (last : Bool) (piece : Bytes) → Part
part key i last piece =
    opening_or (in_place i last (length piece)) (piece_opening key i last piece)
    (opening_or (out_of_place last) (piece_opening key i (not last) piece)
    (closed_part key i last piece))

-- the parts of these pieces, with numbers from i on
abbrev pub parts : (key : Key) (i : ℕ) (pieces : List Bytes) → List Part
parts key = each (part key)

-- the parts of a payload
abbrev pub payload_parts : (file_key : FileKey) (text : Bytes) → List Part
payload_parts file_key text =
    parts (payload_key file_key (take nonce_size text)) 0 (pieces (drop nonce_size text))

-- the number of bytes of the piece after its chunk
abbrev pub padding : (saved : Saved) → ℕ
padding (Padded k) = k
padding _ = 0

-- the texts of the parts, concatenated
abbrev pub salvaged_text : List Part → Bytes
salvaged_text parts = concat (map (λ p. p.text) parts)

-- this chunk, if zeros stand for it
abbrev pub loss : (saved : Saved) (lost : LostChunk) → List LostChunk
loss Zeros lost = lost ∷ []
loss _ lost = []

-- the lost chunks, in order, if the first part is chunk i at offset `at`
abbrev pub losses : (i at : ℕ) (parts : List Part) → List LostChunk
losses i at [] = []
losses i at (p ∷ more) =
    loss p.saved (record { chunk = i; start = at; len = length p.text })
    ++ losses (i + 1) (at + length p.text) more

-- what was saved of the last piece; `Chunk` if there is no piece
abbrev pub last_saved : List Part → Saved
last_saved [] = Chunk
last_saved (p ∷ []) = p.saved
last_saved (p ∷ q ∷ more) = last_saved (q ∷ more)

-- what was saved of the piece before the last; `before` if there are fewer than two pieces
abbrev pub saved_before : (before : Saved) → List Part → Saved
saved_before before [] = before
saved_before before (p ∷ []) = before
saved_before before (p ∷ q ∷ more) = saved_before p.saved (q ∷ more)

-- the latest early chunk: chunk i if it is early, otherwise the latest one before it
abbrev pub early_after : (saved : Saved) (i : ℕ) (before : Option ℕ) → Option ℕ
early_after Early i before = Some i
early_after _ i before = before

-- the latest early chunk of these parts, the first of which is chunk i, or of those before them
abbrev pub latest_early : (i : ℕ) (before : Option ℕ) (parts : List Part) → Option ℕ
latest_early i before [] = before
latest_early i before (p ∷ more) = latest_early (i + 1) (early_after p.saved i before) more

-- the number of bytes, of pieces and of lost chunks, the latest early chunk, and what was saved of
-- the last two pieces
abbrev pub summary : (parts : List Part) → Salvaged
summary parts = record {
  bytes = length (salvaged_text parts);
  chunks = length parts;
  lost = length (losses 0 0 parts);
  early = latest_early 0 None parts;
  before = saved_before Chunk parts;
  last = last_saved parts;
}

-- The last piece opens as a chunk that others follow. Or it has no text and does not open, and
-- either it is the first or the piece before it opens as a chunk that others follow.
abbrev pub is_cut_to : (last before : Saved) → Bool
is_cut_to Chunk before = true
is_cut_to Nothing Chunk = true
is_cut_to _ before = false

abbrev pub is_cut : (s : Salvaged) → Bool
is_cut s = is_cut_to s.last s.before

-- no chunk is lost or early, and the last piece is the last chunk
abbrev pub is_whole_to : (last : Saved) (lost : ℕ) (early : Option ℕ) → Bool
is_whole_to LastChunk lost None = nat_eq lost 0
is_whole_to _ lost early = false

abbrev pub is_whole : (s : Salvaged) → Bool
is_whole s = is_whole_to s.last s.lost s.early

-- the chunks reported as lost so far, if they are known
abbrev pub KnownLosses : Type 0
KnownLosses = Option (List LostChunk)

-- the same before and after a call
pub record LossesMoved : Type 0 where
  pub before : KnownLosses
  pub after : KnownLosses

abbrev pub losses_of : (before after : KnownLosses) → LossesMoved
losses_of before after = record { before = before; after = after }

abbrev pub losses_by : {L : Type 0} (lost : L → KnownLosses) (old new : L) → LossesMoved
losses_by lost old new = losses_of (lost old) (lost new)

-- these chunks were reported after those reported before
abbrev pub Reports : (losses : LossesMoved) (list : List LostChunk) → Type 0
Reports losses list = IfSome losses.before (λ past. losses.after ≡ Some (past ++ list))

-- the first n parts were written, and the lost chunks among them were reported
abbrev pub Saves : (n : ℕ) (parts : List Part) (sink : Moved) (lost : LossesMoved) → Type 0
Saves n parts sink lost =
    Took sink (salvaged_text (take n parts)) × Reports lost (losses 0 0 (take n parts))

-- The result for these parts. On Ok it is their summary, and all were written. With too many chunks
-- the first `max` were, after a failed read some first n, after a failed write some first n and a
-- prefix of the next. The lost chunks among all, the first `max` or the first n were reported.
abbrev pub SavesParts : (max : ℕ) (parts : List Part) (sink : Moved) (lost : LossesMoved)
    (r : Result Salvaged StreamFault) → Type 0
SavesParts max parts sink lost (Ok s) =
    (length parts ≤ max) × Saves (length parts) parts sink lost × (s ≡ summary parts)
SavesParts max parts sink lost (Err TooManyChunks) =
    (max < length parts) × Saves max parts sink lost
SavesParts max parts sink lost (Err Read) = (n : ℕ) × Saves n parts sink lost
SavesParts max parts sink lost (Err Write) =
    (n : ℕ) × (k : ℕ)
    × Took sink (salvaged_text (take n parts) ++ take k (salvaged_text (take 1 (drop n parts))))
    × Reports lost (losses 0 0 (take n parts))
SavesParts max parts sink lost (Err _) = ⊥

-- the same for a payload; nothing was written if the nonce is incomplete or memory was refused
abbrev pub SavesPayload : (file_key : FileKey) (max : ℕ) (text : Bytes) (sink : Moved)
    (lost : LossesMoved) (r : Result Salvaged StreamFault) → Type 0
SavesPayload file_key max text sink lost (Err NonceTruncated) =
    (length text < nonce_size) × Saves 0 [] sink lost
SavesPayload file_key max text sink lost (Err Memory) = Saves 0 [] sink lost
SavesPayload file_key max text sink lost (Err Read) =
    SavesParts max (payload_parts file_key text) sink lost (Err Read)
SavesPayload file_key max text sink lost r =
    (nonce_size ≤ length text) × SavesParts max (payload_parts file_key text) sink lost r

-- the same for the bytes read from the source
abbrev pub Salvages : (file_key : FileKey) (max : ℕ) (source : Flow) (sink : Moved)
    (lost : LossesMoved)
    (r : Result Salvaged StreamFault) → Type 0
Salvages file_key max source sink lost r =
    OfGiven source (λ text. SavesPayload file_key max text sink lost r)

-- The piece or write at which saving ended, and a limit on the bytes read from the source. Nothing
-- is said about a failed read, an incomplete nonce, or refused memory.
abbrev pub EndsSaving : (max : ℕ) (source : Flow) (sink : Moved) (fault : StreamFault) → Type 0
EndsSaving max source sink Read = ⊤
EndsSaving max source sink NonceTruncated = ⊤
EndsSaving max source sink Memory = ⊤
EndsSaving max source sink fault = EndsAt max nonce_size source sink fault

-- a fault before which something may have been written
abbrev pub IsOfPieces : StreamFault → Type 0
IsOfPieces TooManyChunks = ⊤
IsOfPieces Read = ⊤
IsOfPieces Write = ⊤
IsOfPieces _ = ⊥

-- the part for the first piece of c as piece i, which is the last if no byte follows it
abbrev pub first_part : (key : Key) (i : ℕ) (c : Bytes) → Part
first_part key i c =
    part key i (nat_le (length c) sealed_chunk_size) (take sealed_chunk_size c)

-- the summary with one more part
abbrev pub with_part : (s : Salvaged) (len : ℕ) (saved : Saved) → Salvaged
with_part s len saved = record {
  bytes = s.bytes + len;
  chunks = s.chunks + 1;
  lost = s.lost + length (loss saved (record { chunk = s.chunks; start = s.bytes; len = len }));
  early = early_after saved s.chunks s.early;
  before = s.last;
  last = saved;
}
