-- Sizes in bytes, and the maximum number of chunks (C2SP age.md, "Payload").
use Rattle.std.specs.Prelude.{ℕ, ◌+◌, ◌^◌}
pub use Rattle.age_cipher.specs.Bytes.{tag_size}

-- the nonce of a payload
abbrev pub nonce_size : ℕ
nonce_size = 16

-- the plaintext of each chunk except the last
abbrev pub chunk_size : ℕ
chunk_size = 65536

-- a full chunk after sealing
abbrev pub sealed_chunk_size : ℕ
sealed_chunk_size = chunk_size + tag_size

-- the buffer of a sealer or an opener: a sealed chunk and the byte after it
abbrev pub chunk_buf_size : ℕ
chunk_buf_size = sealed_chunk_size + 1

-- the longest padding that salvaging takes off after a last chunk: 1 less than a block of 4,096
abbrev pub max_padding : ℕ
max_padding = 4095

-- the number of chunks that a counter of eleven bytes can number
abbrev pub most_chunks : ℕ
most_chunks = 2 ^ 88
