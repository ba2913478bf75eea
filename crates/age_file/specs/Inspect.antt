-- The result of reading a file's header.
use Rattle.std.specs.Prelude.{◌≡◌, ◌⊎◌, Result, Ok, Err}
use Rattle.age_header.specs.Device.{Flow, GaveAtMost}
use Rattle.age_header.specs.declared.fault.HeaderFault.{HeaderFault}
use Rattle.age_header.specs.Header.{HeaderParts}
use Rattle.age_header.specs.Reader.{ReadsHeader}
use Rattle.age_file.specs.declared.fault.Fault.{Fault}
use Rattle.age_file.specs.declared.fault.Fault.TheVariants.{Read}
use Rattle.age_file.specs.AgeFile.{Bounds}
use Rattle.age_file.specs.Verdict.{header_fault}

-- the result of a reader of headers under these limits, with its fault as a `Fault`
abbrev pub Inspects : (limits : Bounds) (source : Flow) (r : Result HeaderParts Fault) → Type 0
Inspects limits source (Ok header) = ReadsHeader source limits.max_header (Ok header)
Inspects limits source (Err fault) =
    (reason : HeaderFault) × (fault ≡ header_fault reason)
    × ReadsHeader source limits.max_header (Err reason)

-- a read failed, or at most as many bytes were read as a header may have
abbrev pub ReadsFront : (limits : Bounds) (source : Flow) (fault : Fault) → Type 0
ReadsFront limits source fault = (fault ≡ Read) ⊎ GaveAtMost limits.max_header source
