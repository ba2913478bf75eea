-- The faults that a device counts.
use Rattle.std.specs.Prelude.{Bool, true, false}
use Rattle.age_stream.specs.Words.{StreamFault, Read, Write}

-- a failed read, which the source counts
abbrev pub is_read : StreamFault → Bool
is_read Read = true
is_read _ = false

-- a failed write, which the sink counts
abbrev pub is_write : StreamFault → Bool
is_write Write = true
is_write _ = false
