-- Names of other files and crates, re-exported for the files of this crate.
pub use Rattle.age_file.specs.AgeFile.{Bounds}
pub use Rattle.age_file.specs.NewFile.{EncryptsGiven, EncryptsText, Gathered, Gathering, RefusesFirst}
pub use Rattle.age_file.specs.Verdict.{Answering, finding, header_fault}
pub use Rattle.age_file.specs.declared.fault.Fault.{Fault}
pub use Rattle.age_file.specs.declared.fault.Fault.TheVariants.{BadChunk, BadMac, OutOfMemory, Read, Write}
pub use Rattle.age_header.specs.Device.{Bytes, Flow, Known, Moved, OfGiven, Stays, Took, WritesPart}
pub use Rattle.age_header.specs.Header.{Head, HeaderParts, StanzaParts, line}
pub use Rattle.age_job.specs.declared.job.Job.{Job}
pub use Rattle.std.specs.Io.KnownBytes.{Consumes, IsAtEnd, Keeps}
pub use Rattle.std.specs.Prelude.{Bool, Err, IfErr, IfSome, List, None, Ok, Option, Result, Some, [], codes, decimal, false, flat_map, if◌then◌else◌, length, map, min, slice_get, slice_index, true, ℕ, ⊤, ◌%◌, ◌&&◌, ◌*◌, ◌++◌, ◌+◌, ◌-◌, ◌/◌, ◌<◌, ◌^◌, ◌∷◌, ◌≡◌, ◌≢◌, ◌≤◌, ◌⊎◌}
