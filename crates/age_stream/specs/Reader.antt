-- The results of a reader of a payload: those of its constructors and its calls.
use Rattle.std.specs.Prelude.{ℕ, ◌≡◌, ◌⊎◌, IfErr, IsErrOf, Bool, true, false, Option, None, Some, Result, Ok, Err}
use denote.Ref.{MutBor}
use Rattle.age_stream.specs.Words.{Bytes, CountsFaultIf, CountsIf, Flow, GaveAtMost, Known, flow_by, FileKey, StreamFault, Read, nonce_size}
use Rattle.age_stream.specs.declared.reader.StreamReader.{StreamReader}
use Rattle.age_stream.specs.Counts.{is_read}
use Rattle.age_stream.specs.Opening.{Advances, IsSpentAfter, OpenerState, Starts}
use Rattle.age_stream.specs.Writer.{IsRefusedMemory}

-- the nonce was not read: the source has fewer than 16 bytes, or a read failed, which was counted
abbrev pub MissesNonce : (file_key : FileKey) (max : ℕ) (source : Flow) (before after : ℕ)
    (fault : StreamFault) → Type 0
MissesNonce file_key max source before after fault =
    Starts file_key max source (Err fault) × CountsFaultIf is_read before after fault
    × ((fault ≡ Read) ⊎ GaveAtMost nonce_size source)

-- The result of making a reader, and its effect on the source: the nonce was read, and the opener
-- is before piece 0; or memory was refused, and nothing was read; or the nonce was not read.
abbrev pub StartsReader : {S : Type 0} (to_come : S → Known) (gave : S → Bytes → Type 0)
    (failed : S → ℕ) (file_key : FileKey) (max : ℕ) (old new : S)
    (r : Result OpenerState StreamFault) → Type 0
StartsReader to_come gave failed file_key max old new (Ok opener) =
    Starts file_key max (flow_by to_come gave old new) (Ok opener)
    × GaveAtMost nonce_size (flow_by to_come gave old new) × (failed new ≡ failed old)
StartsReader to_come gave failed file_key max old new (Err fault) =
    IsRefusedMemory old new fault
    ⊎ MissesNonce file_key max (flow_by to_come gave old new) (failed old) (failed new) fault

-- true if a chunk was lent, false after the last chunk, or the same fault
abbrev pub is_lent : {A : Type 0} → Result (Option A) StreamFault → Result Bool StreamFault
is_lent (Ok None) = Ok false
is_lent (Ok (Some piece)) = Ok true
is_lent (Err fault) = Err fault

-- One call of a reader that keeps no fault. A failed read is counted, and a fault is kept. Unless a
-- read failed, the reader's opener made the step `Advances`. After None, and after a fault, the
-- opener holds no byte.
abbrev pub Lends : (old new : OpenerState) (source : Flow) (before after : ℕ)
    (r : Result Bool StreamFault) → Type 0
Lends old new source before after r =
    IfErr r (λ fault. new.fault ≡ Some fault) × CountsIf is_read before after r
    × (IsErrOf r Read ⊎ Advances old new source r) × IsSpentAfter new r

-- the source of a reader, and its opener
abbrev pub source_of : {S B : Type 0} → StreamReader S B → MutBor S
source_of reader = reader.input

abbrev pub opener_of : {S B : Type 0} → StreamReader S B → B
opener_of reader = reader.opener
