-- A file that is written or read in steps: the state between the steps, and the effect of each step
-- on the device.
use Rattle.std.specs.Prelude.{◌≡◌, ◌⊎◌, ℕ, true, false, ◌++◌, Result, Ok, Err}
use denote.Ref.{MutBor}
use Rattle.age_header.specs.Device.{Bytes, CountsFaultIf, Known, WritesPart, Took, flow_by, move_by}
use Rattle.age_header.specs.Header.{Head, HeaderParts}
use Rattle.age_header.specs.declared.file_key.FileKey.{FileKey}
use Rattle.age_stream.specs.declared.fault.StreamFault.{StreamFault}
use Rattle.age_stream.specs.Opening.{OpenerState}
use Rattle.age_stream.specs.Payload.{payload_key}
use Rattle.age_stream.specs.Reader.{MissesNonce, StartsReader}
use Rattle.age_stream.specs.Sealing.{SealerState, at_start}
use Rattle.age_file.specs.declared.decryptor.Decryptor.{Decryptor}
use Rattle.age_file.specs.declared.fault.Fault.{Fault}
use Rattle.age_file.specs.declared.fault.Fault.TheVariants.{MixedPassphrase, OutOfMemory, Write}
use Rattle.age_file.specs.declared.limits.Fresh.{Fresh}
use Rattle.age_file.specs.AgeFile.{Bounds, is_mixed}
use Rattle.age_file.specs.Device.{is_read, is_write}
use Rattle.age_file.specs.Inspect.{Inspects, ReadsFront}
use Rattle.age_file.specs.Verdict.{stream_fault}

-- a file ready to be written: its header, its key and nonce, and the limits
pub record EncryptorState : Type 0 where
  pub header : HeaderParts
  pub fresh : Fresh
  pub limits : Bounds

-- The result of starting a file, and its effect on the sink: the header and then the nonce were
-- written, and the sealer is before chunk 0; or the fault is `OutOfMemory`, and the sink is
-- unchanged; or a write failed, which was counted, and a prefix of header and nonce was written.
abbrev pub StartsFile : {W : Type 0} (taken : W → Known) (failed : W → ℕ) (s : EncryptorState)
    (old new : W) (r : Result SealerState Fault) → Type 0
StartsFile taken failed s old new (Ok sealer) =
    ((text : Bytes) × Head s.header.stanzas s.header.mac text
    × Took (move_by taken old new) (text ++ s.fresh.nonce))
    × (failed new ≡ failed old)
    × (sealer ≡ at_start (payload_key s.fresh.file_key s.fresh.nonce) s.limits.max_chunks)
StartsFile taken failed s old new (Err fault) =
    ((fault ≡ OutOfMemory) × (new ≡ old))
    ⊎ ((fault ≡ Write)
    × ((text : Bytes) × Head s.header.stanzas s.header.mac text
    × WritesPart (move_by taken old new) (text ++ s.fresh.nonce))
    × CountsFaultIf is_write (failed old) (failed new) fault)

-- the parts of a `Decryptor`: the source after the header, the header, and the limits
abbrev pub input_of : {S H : Type 0} → Decryptor S H → MutBor S
input_of d = d.input

abbrev pub header_of : {S H : Type 0} → Decryptor S H → H
header_of d = d.header

abbrev pub limits_of : {S H : Type 0} → Decryptor S H → Bounds
limits_of d = d.limits

-- Reading a header. On Ok exactly its bytes were read, and no `scrypt` stanza is beside another. A
-- fault is that of `Inspects`, or `MixedPassphrase`; then at most as many bytes were read as a
-- header may have, unless a read failed, which was counted.
abbrev pub StartsDecryptor : {S : Type 0} (to_come : S → Known) (gave : S → Bytes → Type 0)
    (failed : S → ℕ) (limits : Bounds) (old new : S) (r : Result HeaderParts Fault) → Type 0
StartsDecryptor to_come gave failed limits old new (Ok header) =
    Inspects limits (flow_by to_come gave old new) (Ok header) × (is_mixed header.stanzas ≡ false)
    × (failed new ≡ failed old)
StartsDecryptor to_come gave failed limits old new (Err fault) =
    CountsFaultIf is_read (failed old) (failed new) fault
    × ReadsFront limits (flow_by to_come gave old new) fault
    × (Inspects limits (flow_by to_come gave old new) (Err fault)
    ⊎ ((fault ≡ MixedPassphrase)
    × ((header : HeaderParts) × Inspects limits (flow_by to_come gave old new) (Ok header)
    × (is_mixed header.stanzas ≡ true))))

-- The result of opening a payload, and its effect on the source. `found` is the file key, or the
-- fault of unlocking. A reader was made; or the fault is that of `found`, or `OutOfMemory`, and
-- nothing was read; or the nonce was not read.
abbrev pub StartsUnder : {S : Type 0} (to_come : S → Known) (gave : S → Bytes → Type 0)
    (failed : S → ℕ) (limits : Bounds) (found : Result FileKey Fault) (old new : S)
    (r : Result OpenerState Fault) → Type 0
StartsUnder to_come gave failed limits found old new (Ok opener) =
    (k : FileKey) × (found ≡ Ok k)
    × StartsReader to_come gave failed k limits.max_chunks old new (Ok opener)
StartsUnder to_come gave failed limits found old new (Err fault) =
    (((fault ≡ OutOfMemory) ⊎ (found ≡ Err fault)) × (new ≡ old))
    ⊎ ((k : FileKey) × (met : StreamFault) × (found ≡ Ok k) × (fault ≡ stream_fault met)
    × MissesNonce k limits.max_chunks (flow_by to_come gave old new) (failed old) (failed new) met)
