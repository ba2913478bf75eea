-- The payload of a plaintext (C2SP age.md, "Payload").
use Rattle.std.specs.Prelude.{ℕ, ◌+◌, List, [], ◌∷◌, ◌++◌, Bool, true, false, if◌then◌else◌, codes}
use Rattle.std.specs.Int.{bytes_high_first}
use Rattle.std.specs.List.{concat}
use Rattle.age_stream.specs.Words.{Bytes, Key, Nonce, sealed_text, FileKey, chunk_size, sealed_chunk_size}
use Rattle.age_kdf.specs.Hkdf.{hkdf}
use Rattle.age_stream.specs.Cutting.{cut}

-- the chunks of a plaintext: each has 65,536 bytes, except the last, which has 1 to 65,536; an
-- empty plaintext is one empty chunk
abbrev pub chunks : Bytes → List Bytes
chunks plain = cut chunk_size plain

-- the bytes after the nonce, cut at every 65,552 bytes
abbrev pub pieces : Bytes → List Bytes
pieces rest = cut sealed_chunk_size rest

-- the nonce of chunk i: its number in eleven big-endian bytes, then 1 for the last chunk and 0 for
-- any other
unfoldable pub chunk_nonce : (i : ℕ) (last : Bool) → Nonce
chunk_nonce i last = bytes_high_first 11 i ++ (if last then 1 else 0) ∷ []

-- whether no chunk or piece is left
abbrev pub is_end : List Bytes → Bool
is_end [] = true
is_end (_ ∷ _) = false

-- `of` applied to each chunk or piece: to its number, from i on, whether it is last, and its bytes
abbrev pub each : {A : Type 0} (of : ℕ → Bool → Bytes → A) (i : ℕ) (pieces : List Bytes) → List A
each of i [] = []
each of i (piece ∷ more) = of i (is_end more) piece ∷ each of (i + 1) more

-- chunk i, sealed under its number
abbrev pub sealed_chunk : (key : Key) (i : ℕ) (last : Bool) (chunk : Bytes) → Bytes
sealed_chunk key i last chunk = sealed_text key (chunk_nonce i last) [] chunk

-- sealed chunks, with numbers from i on
abbrev pub sealed_chunks_from : (key : Key) (i : ℕ) (chunks : List Bytes) → List Bytes
sealed_chunks_from key = each (sealed_chunk key)

-- the key of the chunks
unfoldable pub payload_key : (file_key : FileKey) (nonce : Bytes) → Key
payload_key file_key nonce = hkdf file_key.0 nonce (codes "payload") 32

-- the sealed chunks of a plaintext
abbrev pub sealed_chunks : (file_key : FileKey) (nonce plain : Bytes) → List Bytes
sealed_chunks file_key nonce plain = sealed_chunks_from (payload_key file_key nonce) 0
    (chunks plain)

-- the payload: the nonce, then the sealed chunks
abbrev pub payload : (file_key : FileKey) (nonce plain : Bytes) → Bytes
payload file_key nonce plain = nonce ++ concat (sealed_chunks file_key nonce plain)
