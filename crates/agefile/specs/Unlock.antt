-- The results of unlocking: the file key and the length of the header; the offset of the sealed
-- chunks and their key; and a payload opened under the file key.
use Rattle.std.specs.Prelude.{◌≡◌, ◌⊎◌, ◌+◌, if◌then◌else◌}
use Rattle.agefile.specs.Words.{ℕ, length, None, Result, Ok, Err, take, drop, nat_lt, List, Bytes, HeaderFault, Found, HeaderVerdict, FileKey, Fault, OutOfMemory, NonceTruncated, Answering, header_fault, parts_of, header_key, Report, payload_key, Start, nonce_size, StanzaParts, Unwrapped, Payload}
use Rattle.agefile.specs.declared.unlocking.Unlocked.{Unlocked}
use Rattle.agefile.specs.Codes.{ok}
use Rattle.agefile.specs.Sizes.{limits}
use Rattle.agefile.specs.Report.{Refuses, report_of}
use Rattle.age_recipient.specs.declared.unwrapped.Unwrapped.TheVariants.{Key}
use Rattle.agefile.specs.Giving.{one_answer}
use Rattle.agefile.specs.Payload.{before_first, closed_payload, phase_reading}

-- a file key with the length of its header, or the fault in its place
abbrev pub with_len : (len : ℕ) (key : Result FileKey Fault) → Result Unlocked Fault
with_len len (Err fault) = Err fault
with_len len (Ok key) = Ok (record { header_len = len; key = key })

-- the file key that these answers choose, with the MAC verified; or the first fault up to the MAC
abbrev pub key_of : (answers : Answering) (result : Result Found HeaderFault)
    → Result Unlocked Fault
key_of answers (Err fault) = Err (header_fault fault)
key_of answers (Ok found) = with_len (length found.text) (header_key answers (parts_of found))

-- the same for the header at the start of b
abbrev pub IsKey : (answers : Answering) (b : Bytes) (key : Result Unlocked Fault) → Type 0
IsKey answers b key =
    (header : Result Found HeaderFault) × HeaderVerdict b limits.max_header header
    × (key ≡ key_of answers header)

-- the file key of b's header, or the first fault up to the MAC, or out of memory
abbrev pub FindsKey : (answers : Answering) (b : Bytes) (key : Result Unlocked Fault) → Type 0
FindsKey answers b key = (key ≡ Err OutOfMemory) ⊎ IsKey answers b key

-- the file key is written, and the header's length reported; or the fault is returned, and the
-- buffer is unchanged
abbrev pub GivesKey : (key : Result Unlocked Fault) (old new : Bytes) (report : Report) (code : ℕ)
    → Type 0
GivesKey (Ok found) old new report code =
    (code ≡ ok) × (report ≡ report_of found.header_len None) × (new ≡ found.key.0)
GivesKey (Err fault) old new report code =
    Refuses fault old new report code

-- the result of unlocking b's header
abbrev pub Unlocks : (answers : Answering) (b old new : Bytes) (report : Report) (code : ℕ)
    → Type 0
Unlocks answers b old new report code =
    (key : Result Unlocked Fault) × FindsKey answers b key × GivesKey key old new report code

-- the offset of the chunks and their key, if `rest` follows a header of `len` bytes; or the fault,
-- which is `NonceTruncated` if there is a file key and `rest` is shorter than a nonce
abbrev pub start_under : (len : ℕ) (rest : Bytes) (result : Result FileKey Fault)
    → Result Start Fault
start_under len rest (Err fault) = Err fault
start_under len rest (Ok k) =
    if nat_lt (length rest) nonce_size then Err NonceTruncated
    else Ok (record { first = len + nonce_size; key = payload_key k (take nonce_size rest) })

-- the start of b's payload, or the first fault before its first chunk, given b's header verdict
abbrev pub start_of : (answers : Answering) (b : Bytes) (result : Result Found HeaderFault)
    → Result Start Fault
start_of answers b (Err fault) = Err (header_fault fault)
start_of answers b (Ok found) =
    start_under (length found.text) (drop (length found.text) b) (header_key answers
    (parts_of found))

-- the same, by a header verdict on b
abbrev pub IsStart : (answers : Answering) (b : Bytes) (start : Result Start Fault) → Type 0
IsStart answers b start =
    (header : Result Found HeaderFault) × HeaderVerdict b limits.max_header header
    × (start ≡ start_of answers b header)

-- the start of b's payload, or the first fault before its first chunk, or out of memory
abbrev pub FindsStart : (answers : Answering) (b : Bytes) (result : Result Start Fault) → Type 0
FindsStart answers b result = (result ≡ Err OutOfMemory) ⊎ IsStart answers b result

-- the meaning of an identity that returns this file key for any stanzas
abbrev pub gives_key : (file_key : Bytes) (stanzas : List StanzaParts) → Unwrapped
gives_key file_key stanzas = Key (record { 0 = file_key })

-- the answers of one identity, which returns this file key for any stanzas
abbrev pub by_file_key : Bytes → Answering
by_file_key file_key = one_answer (gives_key file_key)

-- the payload is before chunk 0, whose offset is reported; or it is closed, with a fault returned
abbrev pub StartsAt : (start : Result Start Fault) (new : Payload) (report : Report) (code : ℕ)
    → Type 0
StartsAt (Ok start) new report code =
    (code ≡ ok) × (report ≡ report_of start.first None)
    × (new ≡ before_first start.key phase_reading)
StartsAt (Err fault) new report code =
    Refuses fault closed_payload new report code

-- the result of opening a file with this front
abbrev pub Opens : (answers : Answering) (front : Bytes) (new : Payload) (report : Report)
    (code : ℕ) → Type 0
Opens answers front new report code =
    (start : Result Start Fault) × FindsStart answers front start × StartsAt start new report code
