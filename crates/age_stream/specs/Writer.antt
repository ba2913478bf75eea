-- The results of a writer of a payload, and the effect of its constructors and calls on its sink.
use Rattle.std.specs.Prelude.{ℕ, ◌≡◌, ◌≤◌, ◌<◌, ◌≢◌, length, MatchResult, None, Some, Result, Ok, Err}
use Rattle.age_stream.specs.Words.{Bytes, CountsFaultIf, Known, Moved, Took, WritesPart, move_by, FileKey, StreamFault, Memory, Read, Write, chunk_size}
use denote.Ref.{MutBor}
use Rattle.age_stream.specs.Counts.{is_write}
use Rattle.age_stream.specs.declared.writer.StreamWriter.{StreamWriter}
use Rattle.age_stream.specs.declared.refused.Refused.{Refused}
use Rattle.age_stream.specs.Payload.{payload_key}
use Rattle.age_stream.specs.Sealing.{Fed, SealerState, StopsIn, at_start}

-- A sealer that keeps no fault took a text; the whole output does not depend on how the plaintext
-- is split. Or a fault occurred: a failed write, or too many chunks.
abbrev pub TakesPiece : {A : Type 0} (s t : SealerState) (piece : Bytes) (sink : Moved)
    (r : Result A StreamFault) → Type 0
TakesPiece s t piece sink r =
    (t.key ≡ s.key) × (t.max_chunks ≡ s.max_chunks)
    × MatchResult r
    (λ _. (t.fault ≡ None) × (length t.held ≤ chunk_size) × (t.index < t.max_chunks)
    × Fed s.key s.index t.index s.held piece t.held sink)
    (λ fault. (t.fault ≡ Some fault) × (fault ≢ Read)
    × StopsIn s.key s.max_chunks s.index s.held piece sink fault)

-- The result of making a writer, and its effect on the sink: the nonce was written, and the sealer
-- is before chunk 0; or a write of the nonce failed.
abbrev pub StartsWriter : {W : Type 0} (taken : W → Known) (failed : W → ℕ) (file_key : FileKey)
    (nonce : Bytes) (max : ℕ) (old new : W) (r : Result SealerState StreamFault) → Type 0
StartsWriter taken failed file_key nonce max old new (Ok sealer) =
    Took (move_by taken old new) nonce × (failed new ≡ failed old)
    × (sealer ≡ at_start (payload_key file_key nonce) max)
StartsWriter taken failed file_key nonce max old new (Err fault) =
    (fault ≡ Write) × WritesPart (move_by taken old new) nonce
    × CountsFaultIf is_write (failed old) (failed new) fault

-- the fault is `Memory`, and the device is unchanged
abbrev pub IsRefusedMemory : {W : Type 0} (old new : W) (fault : StreamFault) → Type 0
IsRefusedMemory old new fault = (fault ≡ Memory) × (new ≡ old)

-- the sink of a writer, and its sealer
abbrev pub sink_of : {W B : Type 0} → StreamWriter W B → MutBor W
sink_of writer = writer.out

abbrev pub sealer_of : {W B : Type 0} → StreamWriter W B → B
sealer_of writer = writer.sealer

-- the device and the fault in the error of a constructor
abbrev pub device_of : {D E : Type 0} → Refused D E → MutBor D
device_of refused = refused.device

abbrev pub fault_of : {D E : Type 0} → Refused D E → E
fault_of refused = refused.fault
