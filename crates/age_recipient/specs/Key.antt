-- A file key as a value.
use Rattle.std.specs.Prelude.{◌≡◌, ◌<◌, ℕ, length, slice_index}
use Rattle.age_header.specs.declared.file_key.FileKey.{FileKey}

-- the length of a file key in bytes
abbrev pub file_key_size : ℕ
file_key_size = 16

-- a file key has 16 bytes, as its type says
pub record IsFileKey (file_key : FileKey) : Type 0 where
  pub len : length file_key.0 ≡ file_key_size
  pub bytes : (i : ℕ) → slice_index file_key.0 i < 256
