-- What a fault means for the devices: which device counts it, and whether something may have been
-- written. A fault not named here leaves both counts of failures and the sink unchanged.
use Rattle.std.specs.Prelude.{◌≡◌, ◌⊎◌, ⊤, Bool, true, false, IfErr, Result}
use Rattle.age_file.specs.declared.fault.Fault.{Fault}
use Rattle.age_file.specs.declared.fault.Fault.TheVariants.{ChunkShort, EmptyFinal, BadChunk, TooManyChunks, Read, Write}

-- a failed read, which the source counts
abbrev pub is_read : Fault → Bool
is_read Read = true
is_read _ = false

-- a failed write, which the sink counts
abbrev pub is_write : Fault → Bool
is_write Write = true
is_write _ = false

-- a fault that no device counts
abbrev pub IsNoDeviceFault : Fault → Type 0
IsNoDeviceFault fault = (is_read fault ≡ false) × (is_write fault ≡ false)

-- a fault before which something may have been written: a chunk's, `TooManyChunks`, or a device's
abbrev pub IsLate : Fault → Type 0
IsLate (ChunkShort i) = ⊤
IsLate (EmptyFinal i) = ⊤
IsLate (BadChunk i) = ⊤
IsLate TooManyChunks = ⊤
IsLate Read = ⊤
IsLate Write = ⊤
IsLate _ = ⊥

-- On a fault the sink is unchanged, whether or not its contents are known, unless the fault is a
-- chunk's, `TooManyChunks`, `Read` or `Write`.
abbrev pub IsQuiet : {W A : Type 0} (old new : W) (result : Result A Fault) → Type 0
IsQuiet old new result = IfErr result (λ fault. IsLate fault ⊎ (new ≡ old))
