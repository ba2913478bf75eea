-- The salt of a stanza.
use Rattle.std.specs.Prelude.{◌≡◌, ◌<◌, ℕ, length, nat_eq, slice_index, if◌then◌else◌}
use Rattle.std.specs.declared.option.Option.{Option}
use Rattle.std.specs.declared.option.Option.TheVariants.{None, Some}
use Rattle.age_kdf.specs.Bytes.{Bytes}

-- the length of a salt in bytes
abbrev pub salt_size : ℕ
salt_size = 16

-- a salt has 16 bytes
pub record IsSalt (salt : Bytes) : Type 0 where
  pub len : length salt ≡ salt_size
  pub bytes : (i : ℕ) → slice_index salt i < 256

-- the decoded bytes, if they have the length of a salt
abbrev pub salt_of : Option Bytes → Option Bytes
salt_of None = None
salt_of (Some salt) = if nat_eq (length salt) salt_size then Some salt else None
