-- The result, the output and the reports of salvaging a file.
use Rattle.std.specs.Prelude.{◌≡◌, ◌⊎◌, ◌&&◌, [], Bool, length, drop, Result, Ok, Err}
use Rattle.std.specs.Result.{result_map_both}
use Rattle.age_header.specs.declared.fault.HeaderFault.{HeaderFault}
use Rattle.age_header.specs.declared.file_key.FileKey.{FileKey}
use Rattle.age_header.specs.Device.{Bytes, Flow, Moved, OfGiven, Took}
use Rattle.age_header.specs.Verdict.{Found, HeaderVerdict}
use Rattle.age_stream.specs.declared.fault.StreamFault.{StreamFault}
use Rattle.age_stream.specs.declared.salvaged.Salvaged.{Salvaged}
use Rattle.age_stream.specs.Salvage.{Reports, SavesPayload, LossesMoved, is_whole}
use Rattle.age_file.specs.declared.fault.Fault.{Fault}
use Rattle.age_file.specs.declared.fault.Fault.TheVariants.{Read, OutOfMemory}
use Rattle.age_file.specs.declared.salvaging.SalvagedFile.{SalvagedFile}
use Rattle.age_file.specs.AgeFile.{Bounds}
use Rattle.age_file.specs.Verdict.{Answering, header_fault, parts_of, stream_fault, found_key}

-- nothing was written or reported
abbrev pub SavesNone : (sink : Moved) (lost : LossesMoved) → Type 0
SavesNone sink lost = Took sink [] × Reports lost []

-- the result for a file: whether the header's MAC is right, and the result for its payload
abbrev pub salvaged_file : (has_right_mac : Bool) (payload : Salvaged) → SalvagedFile
salvaged_file has_right_mac payload =
    record { has_right_mac = has_right_mac; payload = payload }

-- the header's MAC is right, and the payload is whole
abbrev pub is_whole_file : (s : SalvagedFile) → Bool
is_whole_file s = s.has_right_mac && is_whole s.payload

-- the bytes after a header were saved under the file key, whether or not the header's MAC is right;
-- or there is no key: the fault of finding it is returned, and nothing was written or reported
abbrev pub SavesUnder : (limits : Bounds) (rest : Bytes) (key : Result (FileKey × Bool) Fault)
    (sink : Moved) (lost : LossesMoved) (r : Result SalvagedFile Fault) → Type 0
SavesUnder limits rest (Err fault) sink lost r = (r ≡ Err fault) × SavesNone sink lost
SavesUnder limits rest (Ok found) sink lost r =
    (s : Result Salvaged StreamFault)
    × (r ≡ result_map_both (salvaged_file found.1) stream_fault s)
    × SavesPayload found.0 limits.max_chunks rest sink lost s

-- the same for b, given its header verdict
abbrev pub SavesAfter : (limits : Bounds) (answers : Answering) (b : Bytes)
    (header : Result Found HeaderFault) (sink : Moved) (lost : LossesMoved)
    (r : Result SalvagedFile Fault)
    → Type 0
SavesAfter limits answers b (Err fault) sink lost r =
    (r ≡ Err (header_fault fault)) × SavesNone sink lost
SavesAfter limits answers b (Ok found) sink lost r =
    SavesUnder limits (drop (length found.text) b) (found_key answers (parts_of found)) sink lost r

-- the same for b
pub record SavesFile (limits : Bounds) (answers : Answering) (b : Bytes) (sink : Moved)
    (lost : LossesMoved) (r : Result SalvagedFile Fault) : Type 0 where
  pub header : Result Found HeaderFault
  pub header_verdict : HeaderVerdict b limits.max_header header
  pub saves : SavesAfter limits answers b header sink lost r

-- The result, the output and the reports for the bytes b: those of `SavesFile`; but nothing was
-- written or reported on `OutOfMemory`, and perhaps nothing on `Read`.
abbrev pub SalvagesText : (limits : Bounds) (answers : Answering) (b : Bytes) (sink : Moved)
    (lost : LossesMoved) (r : Result SalvagedFile Fault) → Type 0
SalvagesText limits answers b sink lost (Err OutOfMemory) = SavesNone sink lost
SalvagesText limits answers b sink lost (Err Read) =
    SavesNone sink lost ⊎ SavesFile limits answers b sink lost (Err Read)
SalvagesText limits answers b sink lost r = SavesFile limits answers b sink lost r

-- the same for the bytes read from the source
abbrev pub SalvagesFile : (limits : Bounds) (answers : Answering) (source : Flow) (sink : Moved)
    (lost : LossesMoved) (r : Result SalvagedFile Fault) → Type 0
SalvagesFile limits answers source sink lost r =
    OfGiven source (λ b. SalvagesText limits answers b sink lost r)
