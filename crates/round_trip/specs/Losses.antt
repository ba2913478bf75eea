-- The reasons why a plaintext may not come back.
use Rattle.std.specs.Prelude.{◌≡◌, ◌<◌, ◌⊎◌, ⊤, length}
use Rattle.age_stream.specs.Payload.{chunks}
use Rattle.age_file.specs.declared.fault.Fault.{Fault}
use Rattle.age_file.specs.declared.fault.Fault.TheVariants.{OutOfMemory, TooManyChunks, Write}
use Rattle.age_file.specs.AgeFile.{Bounds}
use Rattle.age_file.specs.Words.{Bytes, IsPassError}
use Rattle.round_trip.specs.declared.pairs.TripError.{TripError}
use Rattle.round_trip.specs.declared.pairs.TripError.TheVariants.{Unpaired, Memory, Encrypting, Decrypting}

-- out of memory, or a failed write, the fault of a sink in memory that cannot grow
abbrev pub IsMemoryFault : Fault → Type 0
IsMemoryFault fault = (fault ≡ OutOfMemory) ⊎ (fault ≡ Write)

-- `TooManyChunks`, for a plaintext that has more chunks than the limit
abbrev pub IsTooLong : (limits : Bounds) (plain : Bytes) (fault : Fault) → Type 0
IsTooLong limits plain fault =
    (fault ≡ TooManyChunks) × (limits.max_chunks < length (chunks plain))

-- the fault with which no file is returned: `OutOfMemory`, `Write`, `TooManyChunks` for a plaintext
-- that is too long, or one that `refuses` allows
abbrev pub IsUnwritten : (refuses : Fault → Type 0) (limits : Bounds) (plain : Bytes)
    (fault : Fault) → Type 0
IsUnwritten refuses limits plain fault =
    IsMemoryFault fault ⊎ (IsTooLong limits plain fault ⊎ refuses fault)

-- `Unpaired`, `Memory`, an `IsUnwritten` fault of encrypting, or an `IsMemoryFault` of decrypting
abbrev pub IsLoss : (refuses : Fault → Type 0) (limits : Bounds) (plain : Bytes) (lost : TripError)
    → Type 0
IsLoss refuses limits plain (Unpaired error) = ⊤
IsLoss refuses limits plain Memory = ⊤
IsLoss refuses limits plain (Encrypting fault) = IsUnwritten refuses limits plain fault
IsLoss refuses limits plain (Decrypting fault) = IsMemoryFault fault

-- holds of no fault, because no header is refused
abbrev pub none : Fault → Type 0
none fault = ⊥

-- the error is not `Unpaired`
abbrev pub IsPaired : TripError → Type 0
IsPaired (Unpaired error) = ⊥
IsPaired _ = ⊤

-- the error is `Unpaired(WorkFactor)` only if the work factors do not fit, another only if they do
abbrev pub IsPairedIf : (fits : Type 0) (lost : TripError) → Type 0
IsPairedIf fits (Unpaired error) = IsPassError fits error
IsPairedIf fits _ = fits
