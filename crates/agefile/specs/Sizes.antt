-- The limits of every call, and the lengths of files and plaintexts.
use Rattle.std.specs.Prelude.{◌≡◌, ◌⊎◌, ◌+◌, ◌-◌, ◌*◌, ◌/◌, ◌%◌, ◌^◌}
use Rattle.agefile.specs.Words.{ℕ, take, Bytes, nonce_size, tag_size, chunk_size, sealed_chunk_size, Bounds, default_max_header}

-- a header of 65,536 bytes, and 2^64 - 1 chunks
abbrev pub limits : Bounds
limits = record { max_header = default_max_header; max_chunks = 2 ^ 64 - 1 }

-- the greatest length of a header and the nonce after it: this many bytes suffice to open any file
abbrev pub front_size : ℕ
front_size = limits.max_header + nonce_size

-- a beginning of a file: all of it, or its first `front_size` bytes
abbrev pub IsFront : (front file : Bytes) → Type 0
IsFront front file = (front ≡ file) ⊎ (front ≡ take front_size file)

-- the number of chunks of a plaintext of n bytes
abbrev pub chunk_count : ℕ → ℕ
chunk_count n = (n - 1) / chunk_size + 1

-- the length of a header with one stanza of a key, whose lines have 22, 42, 44 and 48 bytes; one
-- stanza of a passphrase makes it shorter, at most 150 bytes
abbrev pub longest_header : ℕ
longest_header = 156

-- a length that every header exceeds: its version line, 22 bytes, and its end line, 48
abbrev pub shortest_header : ℕ
shortest_header = 70

-- the length of the file of a plaintext of n bytes with a header of `header` bytes: the header, a
-- nonce, the plaintext, and a tag for each chunk
abbrev pub file_len : (header n : ℕ) → ℕ
file_len header n = header + nonce_size + n + tag_size * chunk_count n

-- the same with a header of `longest_header` bytes
abbrev pub sealed_len : ℕ → ℕ
sealed_len n = file_len longest_header n

-- the greatest length of the texts of pieces that together have n bytes: 65,536 bytes of each full
-- piece, and all but a tag of the rest
abbrev pub opened_len : ℕ → ℕ
opened_len n = chunk_size * (n / sealed_chunk_size) + (n % sealed_chunk_size - tag_size)

-- a bound on the length of the plaintext of a file of n bytes
abbrev pub plain_len_at_most : ℕ → ℕ
plain_len_at_most n = opened_len (n - (shortest_header + nonce_size))
