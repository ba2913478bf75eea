-- The text of stanzas, and the results of calls that make a header of it.
use Rattle.std.specs.Prelude.{◌≡◌, ◌≢◌, ◌⊎◌, ◌==◌, ◌-◌, ◌++◌, if◌then◌else◌}
use Rattle.agefile.specs.Words.{ℕ, List, [], length, replicate, codes, nat_lt, None, Result, Ok, Err, Vec, Global, count_by, Bytes, HeaderFault, StanzaParts, line, version_line, Found, HeaderVerdict, FileKey, Fault, BadLine, MixedPassphrase, NoRecipients, OutOfMemory, is_mixed, header_fault, payload_key, Payload, Report}
use Rattle.age_header.specs.Mac.{header_mac}
use Rattle.age_file.specs.NewFile.{Gathering, IsHeading}
use Rattle.agefile.specs.Codes.{out_of_memory}
use Rattle.agefile.specs.Giving.{Exceeds, Fits, Gives}
use Rattle.agefile.specs.Sizes.{limits}
use Rattle.agefile.specs.Payload.{before_first, closed_payload, phase_writing}
use Rattle.agefile.specs.Report.{Refuses, Returns}

-- a text between the version line and an end line with these base64 characters
abbrev pub heading : (text characters : Bytes) → Bytes
heading text characters = version_line ++ text ++ line (codes "--- " ++ characters)

-- the number of base64 characters of a MAC
abbrev pub mac_characters : ℕ
mac_characters = 43

-- a text between the version line and an end line whose MAC is 43 characters `A`
abbrev pub probe : Bytes → Bytes
probe text = heading text (replicate mac_characters 65)

-- the number of LFs in a text, which is that of its complete lines
abbrev pub lines_in : Bytes → ℕ
lines_in text = count_by (λ c. c == 10) text

-- a header's fault, with its line counted in the text of stanzas, which begins at line 2
abbrev pub in_text : Fault → Fault
in_text (BadLine n) = BadLine (n - 1)
in_text fault = fault

-- The stanzas of a text, by the header verdict on its probe; or the verdict's fault, with its line
-- counted in the text. If the header ends before the probe does, its last line is a bad line.
abbrev pub stanzas_in : (text : Bytes) (verdict : Result Found HeaderFault)
    → Result (List StanzaParts) Fault
stanzas_in text (Ok found) =
    if nat_lt (length found.text) (length (probe text)) then Err (BadLine (lines_in found.text - 1))
    else Ok found.stanzas
stanzas_in text (Err reason) = Err (in_text (header_fault reason))

-- these stanzas, unless a `scrypt` stanza is not alone
abbrev pub unless_mixed : Result (List StanzaParts) Fault → Result (List StanzaParts) Fault
unless_mixed (Err fault) = Err fault
unless_mixed (Ok stanzas) = if is_mixed stanzas then Err MixedPassphrase else Ok stanzas

-- the stanzas of a nonempty text, or the first fault
abbrev pub ReadsAs : (text : Bytes) (stanzas : Result (List StanzaParts) Fault) → Type 0
ReadsAs text stanzas =
    (verdict : Result Found HeaderFault) × HeaderVerdict (probe text) limits.max_header verdict
    × (stanzas ≡ unless_mixed (stanzas_in text verdict))

-- the stanzas of a text, or the first fault that prevents a header
abbrev pub HasStanzas : (text : Bytes) (stanzas : Result (List StanzaParts) Fault) → Type 0
HasStanzas text stanzas =
    ((text ≡ []) × (stanzas ≡ Err NoRecipients)) ⊎ ((text ≢ []) × ReadsAs text stanzas)

-- the gathering whose only result is these stanzas
abbrev pub gathering_of : List StanzaParts → Gathering
gathering_of stanzas = λ gathered. gathered ≡ Ok stanzas

-- the header of these stanzas, with its MAC under a file key; or the fault in their place
abbrev pub Signs : (k : FileKey) (stanzas : Result (List StanzaParts) Fault)
    (result : Result (Vec ℕ Global) Fault) → Type 0
Signs k (Ok stanzas) (Ok text) = IsHeading limits k (gathering_of stanzas) stanzas text.items
Signs k (Ok stanzas) (Err fault) = ⊥
Signs k (Err fault) result = result ≡ Err fault

-- the MAC of a header of these stanzas under a file key, or the fault
abbrev pub IsMac : (k : FileKey) (stanzas : Result (List StanzaParts) Fault)
    (mac : Result Bytes Fault) → Type 0
IsMac k (Ok stanzas) mac = mac ≡ Ok (header_mac k.0 stanzas)
IsMac k (Err fault) mac = mac ≡ Err fault

-- the MAC under a file key for the stanzas of a text; or the text's fault, or out of memory
abbrev pub FindsMac : (text : Bytes) (k : FileKey) (mac : Result Bytes Fault) → Type 0
FindsMac text k mac =
    (mac ≡ Err OutOfMemory)
    ⊎ ((stanzas : Result (List StanzaParts) Fault) × ReadsAs text stanzas × IsMac k stanzas mac)

-- the header for a text of stanzas, or its fault, or out of memory
abbrev pub MakesHeader : (text : Bytes) (k : FileKey) (result : Result (Vec ℕ Global) Fault)
    → Type 0
MakesHeader text k result =
    (result ≡ Err OutOfMemory)
    ⊎ ((stanzas : Result (List StanzaParts) Fault) × HasStanzas text stanzas
    × Signs k stanzas result)

-- a header is returned if it fits the buffer; if none was made, the fault is returned
abbrev pub GivesMade : (made : Result (Vec ℕ Global) Fault) (old new : Bytes) (report : Report)
    (code : ℕ) → Type 0
GivesMade (Ok header) old new report code = Gives header.items None old new report code
GivesMade (Err fault) old new report code = Refuses fault old new report code

-- the result of making the header for a text of stanzas
abbrev pub GivesHeader : (stanzas file_key old new : Bytes) (report : Report) (code : ℕ) → Type 0
GivesHeader stanzas file_key old new report code =
    (made : Result (Vec ℕ Global) Fault) × MakesHeader stanzas (record { 0 = file_key }) made
    × GivesMade made old new report code

-- a header and the nonce are returned if they fit the buffer, and the payload is before chunk 0;
-- otherwise, or if no header was made, a code other than 0 is returned, and no payload is open
abbrev pub BeginsMade : (made : Result (Vec ℕ Global) Fault) (k : FileKey) (nonce old new : Bytes)
    (payload : Payload) (report : Report) (code : ℕ) → Type 0
BeginsMade (Ok header) k nonce old new payload report code =
    (Fits (header.items ++ nonce) None old new report code
    × (payload ≡ before_first (payload_key k nonce) phase_writing))
    ⊎ (Exceeds (length (header.items ++ nonce)) old new report code × (payload ≡ closed_payload))
BeginsMade (Err fault) k nonce old new payload report code =
    Refuses fault old new report code × (payload ≡ closed_payload)

-- the result of beginning a file for a text of stanzas; or out of memory
abbrev pub BeginsFile : (stanzas file_key nonce old new : Bytes) (payload : Payload)
    (report : Report) (code : ℕ) → Type 0
BeginsFile stanzas file_key nonce old new payload report code =
    let k : FileKey = record { 0 = file_key } in
    (Returns out_of_memory None old new report code × (payload ≡ closed_payload))
    ⊎ ((made : Result (Vec ℕ Global) Fault) × MakesHeader stanzas k made
    × BeginsMade made k nonce old new payload report code)
