-- The results of encrypting a plaintext for a text of stanzas, and of decrypting a file by the
-- answers of identities.
use Rattle.std.specs.Prelude.{◌≡◌, ◌⊎◌, ◌≤◌, ◌++◌, ◌-◌}
use Rattle.agefile.specs.Words.{ℕ, length, None, Vec, Result, Ok, Err, drop, Option, Global, Bytes, FileKey, chunks, payload, Fault, Report, StreamFault, Reading, Answering, IsVerdict, Start}
use Rattle.agefile.specs.Codes.{out_of_memory}
use Rattle.agefile.specs.Giving.{Gives, Exceeds, Fits}
use Rattle.agefile.specs.Heading.{MakesHeader}
use Rattle.agefile.specs.Sizes.{limits, opened_len}
use Rattle.agefile.specs.Report.{Refuses, Returns}
use Rattle.agefile.specs.Unlock.{IsStart}

-- The file of a plaintext: the header of this text of stanzas, and the payload under this file key
-- and nonce.
abbrev pub IsNewFile : (stanzas file_key nonce plain file : Bytes) → Type 0
IsNewFile stanzas file_key nonce plain file =
    let k : FileKey = record { 0 = file_key } in
    (header : Vec ℕ Global) × MakesHeader stanzas k (Ok header)
    × (file ≡ header.items ++ payload k nonce plain) × (length (chunks plain) ≤ limits.max_chunks)

-- a header and the payload of a plaintext are returned if they fit the buffer; if no header was
-- made, the fault is returned
abbrev pub EncryptsUnder : (made : Result (Vec ℕ Global) Fault) (k : FileKey)
    (nonce plain old new : Bytes) (report : Report) (code : ℕ) → Type 0
EncryptsUnder (Ok header) k nonce plain old new report code =
    (length (chunks plain) ≤ limits.max_chunks)
    × Gives (header.items ++ payload k nonce plain) None old new report code
EncryptsUnder (Err fault) k nonce plain old new report code = Refuses fault old new report code

-- the result of encrypting for a text of stanzas; or out of memory
abbrev pub Encrypts : (stanzas file_key nonce plain old new : Bytes) (report : Report) (code : ℕ)
    → Type 0
Encrypts stanzas file_key nonce plain old new report code =
    let k : FileKey = record { 0 = file_key } in
    Returns out_of_memory None old new report code
    ⊎ ((made : Result (Vec ℕ Global) Fault) × MakesHeader stanzas k made
    × EncryptsUnder made k nonce plain old new report code)

-- A fault before the first chunk is returned. Otherwise, if the buffer is too small for the longest
-- plaintext that the sealed chunks can have, that length is reported; if not, the buffer begins
-- with the verdict's plaintext, and the verdict's fault is returned, if there is one.
abbrev pub DecryptsFrom : (answers : Answering) (b : Bytes) (start : Result Start Fault)
    (old new : Bytes) (report : Report) (code : ℕ) → Type 0
DecryptsFrom answers b (Err fault) old new report code = Refuses fault old new report code
DecryptsFrom answers b (Ok start) old new report code =
    let room = opened_len (length b - start.first) in
    Exceeds room old new report code
    ⊎ ((room ≤ length old) × ((verdict : Reading Fault) × IsVerdict limits answers b verdict
    × Fits verdict.plaintext verdict.fault old new report code))

-- the result of decrypting b; or out of memory
abbrev pub Decrypts : (answers : Answering) (b old new : Bytes) (report : Report) (code : ℕ)
    → Type 0
Decrypts answers b old new report code =
    Returns out_of_memory None old new report code
    ⊎ ((start : Result Start Fault) × IsStart answers b start
    × DecryptsFrom answers b start old new report code)

-- the buffer begins with a chunk's text, and the rest of it is unchanged; or the chunk has a fault,
-- and the whole buffer is unchanged
abbrev pub GivesFirst : (piece_outcome : Result Bytes StreamFault) (old new : Bytes)
    (result : Result ℕ StreamFault) → Type 0
GivesFirst (Ok text) old new result =
    (result ≡ Ok (length text)) × (new ≡ text ++ drop (length text) old)
GivesFirst (Err fault) old new result = (result ≡ Err fault) × (new ≡ old)

-- the buffer begins with the plaintext of a reading, and the rest of it is unchanged; the length of
-- the plaintext and any fault are returned
pub record GivesReading (reading : Reading StreamFault) (old new : Bytes) (len : ℕ)
    (fault : Option StreamFault) : Type 0 where
  pub length_so : len ≡ length reading.plaintext
  pub fault_so : fault ≡ reading.fault
  pub buffer : new ≡ reading.plaintext ++ drop (length reading.plaintext) old
