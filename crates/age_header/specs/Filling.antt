-- The contents of a buffer that is filled from a source.
use Rattle.std.specs.Prelude.{ℕ, ◌++◌, ◌≡◌, ◌≤◌, ◌<◌, ◌+◌, length, take}
use Rattle.std.specs.Io.KnownBytes.{IsAtEnd}
use Rattle.age_header.specs.Device.{Flow, Gave}
use Rattle.age_kdf.specs.Bytes.{Bytes}

-- the source returned n bytes, which follow the first `at` bytes in the buffer; n is 0 only at the
-- end of the source or if the buffer has no room
pub record Got (at n : ℕ) (buf after : Bytes) (source : Flow) : Type 0 where
  pub piece : Bytes
  pub len : length piece ≡ n
  pub room : at + n ≤ length buf
  pub is : take (at + n) after ≡ take at buf ++ piece
  pub bytes : Gave source piece
  pub none : n ≡ 0 → at < length buf → IsAtEnd source.after.to_come

-- the source returned the bytes of the buffer from `start` to n; those before are unchanged
pub record Filled (start n : ℕ) (buf after : Bytes) (source : Flow) : Type 0 where
  pub piece : Bytes
  pub len : start + length piece ≡ n
  pub room : n ≤ length buf
  pub is : take n after ≡ take start buf ++ piece
  pub bytes : Gave source piece
