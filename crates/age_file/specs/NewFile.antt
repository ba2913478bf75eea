-- A new file: the stanzas of its recipients, its header, and its payload (C2SP age.md).
use Rattle.std.specs.Prelude.{◌≡◌, ℕ, ◌+◌, ◌-◌, ◌*◌, ◌<◌, ◌≤◌, ◌⊎◌, true, false, ⊤, List, [], ◌∷◌, ◌++◌, length, map, take, Result, Ok, Err, Option, Some, None, Vec}
use Rattle.std.specs.Global.{Global}
use Rattle.std.specs.List.{AllZip, concat}
use Rattle.age_header.specs.Device.{Bytes, Flow, Gave, GaveAtMost, OfGiven, WritesPart, Moved, Took}
use Rattle.age_header.specs.Header.{StanzaParts, Head}
use Rattle.age_header.specs.Mac.{header_mac}
use Rattle.age_header.specs.declared.file_key.FileKey.{FileKey}
use Rattle.age_recipient.specs.declared.labels.Labels.{Labels}
use Rattle.age_recipient.specs.Labels.{MayLabel, first_incompatible}
use Rattle.age_stream.specs.declared.done.Done.{Done}
use Rattle.age_stream.specs.Payload.{chunks, payload, sealed_chunks}
use Rattle.age_file.specs.declared.fault.Fault.{Fault}
use Rattle.age_file.specs.declared.fault.Fault.TheVariants.{HeaderTooLarge, MixedPassphrase, TooManyChunks, Read, Write, OutOfMemory, NoRecipients, Refused, IncompatibleRecipients}
use Rattle.age_file.specs.declared.limits.Fresh.{Fresh}
use Rattle.age_file.specs.AgeFile.{AgeFile, Bounds, is_mixed}
use Rattle.age_stream.specs.Sizes.{nonce_size, chunk_size, sealed_chunk_size}

-- these stanzas followed by `more`; if `more` is a fault, that fault
abbrev pub with_stanzas : (stanzas : List StanzaParts) (more : Result (List StanzaParts) Fault)
    → Result (List StanzaParts) Fault
with_stanzas stanzas (Ok more) = Ok (stanzas ++ more)
with_stanzas stanzas (Err fault) = Err fault

-- the results of the recipients from number i on: their stanzas in order, or the first refusal
abbrev pub gathering_from : (i : ℕ) (wrapped : List (Result (List StanzaParts) ℕ))
    → Result (List StanzaParts) Fault
gathering_from i [] = Ok []
gathering_from i (Ok stanzas ∷ more) = with_stanzas stanzas (gathering_from (i + 1) more)
gathering_from i (Err code ∷ more) = Err (Refused i code)

-- the refusal gathered; else `IncompatibleRecipients` if there is an index; else the stanzas
abbrev pub unless_incompatible : (gathered : Result (List StanzaParts) Fault) (index : Option ℕ)
    → Result (List StanzaParts) Fault
unless_incompatible (Err fault) index = Err fault
unless_incompatible (Ok stanzas) (Some i) = Err (IncompatibleRecipients i)
unless_incompatible (Ok stanzas) None = Ok stanzas

-- `index` is the first recipient that does not go together with recipient 0, if there is one, by
-- labels that recipients with these meanings may return
abbrev pub IsIncompatible : (meant : List Labels) (index : Option ℕ) → Type 0
IsIncompatible meant index =
    (labels : List Labels) × AllZip MayLabel meant labels × (index ≡ first_incompatible labels)

-- a result that recipients with these meanings may have: all their stanzas, the first refusal, or
-- the first recipient that does not go together with recipient 0
abbrev pub Gathered : (wrapped : List (Result (List StanzaParts) ℕ)) (meant : List Labels)
    (gathered : Result (List StanzaParts) Fault) → Type 0
Gathered wrapped meant gathered =
    (index : Option ℕ) × IsIncompatible meant index
    × (gathered ≡ unless_incompatible (gathering_from 0 wrapped) index)

-- a predicate: the results that a list of recipients may have, such as `Gathered wrapped meant`
abbrev pub Gathering : Type 1
Gathering = Result (List StanzaParts) Fault → Type 0

-- the results that these recipients may have for a file key, by what each wraps and by its labels
abbrev pub gathering_by : {R : Type 0} (recipients : List R)
    (wraps : R → FileKey → Result (List StanzaParts) ℕ) (labels : R → Labels) (k : FileKey)
    → Gathering
gathering_by recipients wraps labels k =
    Gathered (map (λ r. wraps r k) recipients) (map (λ r. labels r) recipients)

-- the header of a new file: its stanzas, none of them a `scrypt` stanza beside another, and its
-- text, within the limit
pub record IsHeading (limits : Bounds) (k : FileKey) (gathered : Gathering)
    (stanzas : List StanzaParts) (text : Bytes) : Type 0 where
  pub gives : gathered (Ok stanzas)
  pub unmixed : is_mixed stanzas ≡ false
  pub head : Head stanzas (header_mac k.0 stanzas) text
  pub fits : length text ≤ limits.max_header

-- the text of the header of a new file, for some stanzas
pub record IsNewHeader (limits : Bounds) (k : FileKey) (gathered : Gathering) (text : Bytes)
    : Type 0 where
  pub stanzas : List StanzaParts
  pub heading : IsHeading limits k gathered stanzas text

-- a header that would be longer than the limit
pub record IsTooLarge (limits : Bounds) (k : FileKey) (gathered : Gathering) : Type 0 where
  pub stanzas : List StanzaParts
  pub text : Bytes
  pub gives : gathered (Ok stanzas)
  pub unmixed : is_mixed stanzas ≡ false
  pub head : Head stanzas (header_mac k.0 stanzas) text
  pub exceeds : limits.max_header < length text

-- the first fault because of which there is no header: a refusal, recipients that do not go
-- together, no stanza at all, a `scrypt` stanza that is not alone, or a length above the limit
abbrev pub IsRefusal : (limits : Bounds) (k : FileKey) (gathered : Gathering) (fault : Fault)
    → Type 0
IsRefusal limits k gathered (Refused i code) = gathered (Err (Refused i code))
IsRefusal limits k gathered (IncompatibleRecipients i) = gathered (Err (IncompatibleRecipients i))
IsRefusal limits k gathered NoRecipients = gathered (Ok [])
IsRefusal limits k gathered MixedPassphrase =
    (stanzas : List StanzaParts) × gathered (Ok stanzas) × (is_mixed stanzas ≡ true)
IsRefusal limits k gathered HeaderTooLarge = IsTooLarge limits k gathered
IsRefusal limits k gathered _ = ⊥

-- the file written: that of the gathered stanzas, this plaintext, and this file key and nonce
pub record NewFile (limits : Bounds) (fresh : Fresh) (gathered : Gathering) (plain : Bytes)
    (gained : Bytes) : Type 0 where
  pub text : Bytes
  pub header : IsNewHeader limits fresh.file_key gathered text
  pub spelled : gained ≡ text ++ payload fresh.file_key fresh.nonce plain
  pub file : AgeFile limits fresh.file_key header.stanzas plain gained

-- The beginning of a file of too many chunks: the header, the nonce and the first limit - 1 sealed
-- chunks.
pub record FileBelowLimit (limits : Bounds) (fresh : Fresh) (gathered : Gathering) (plain : Bytes)
    (gained : Bytes) : Type 0 where
  pub text : Bytes
  pub header : IsNewHeader limits fresh.file_key gathered text
  pub too_many : limits.max_chunks < length (chunks plain)
  pub spelled : gained
      ≡ text
      ++ (fresh.nonce
      ++ concat (take (limits.max_chunks - 1)
      (sealed_chunks fresh.file_key fresh.nonce plain)))

-- a prefix of the header and payload was written
pub record BegunFile (limits : Bounds) (fresh : Fresh) (gathered : Gathering) (plain : Bytes)
    (sink : Moved) : Type 0 where
  pub text : Bytes
  pub header : IsNewHeader limits fresh.file_key gathered text
  pub part : WritesPart sink (text ++ payload fresh.file_key fresh.nonce plain)

-- The result and the output of `encrypt` for the plaintext `plain`. `gathered` holds of the results
-- that the recipients may have.
abbrev pub EncryptsText : (limits : Bounds) (fresh : Fresh) (gathered : Gathering) (plain : Bytes)
    (sink : Moved) (result : Result Done Fault) → Type 0
EncryptsText limits fresh gathered plain sink (Ok done) =
    (gained : Bytes) × NewFile limits fresh gathered plain gained × Took sink gained
    × (done.bytes ≡ length plain) × (done.chunks ≡ length (chunks plain))
EncryptsText limits fresh gathered plain sink (Err TooManyChunks) =
    (gained : Bytes) × FileBelowLimit limits fresh gathered plain gained × Took sink gained
EncryptsText limits fresh gathered plain sink (Err Read) =
    BegunFile limits fresh gathered plain sink
EncryptsText limits fresh gathered plain sink (Err Write) =
    BegunFile limits fresh gathered plain sink
EncryptsText limits fresh gathered plain sink (Err fault) = ⊤

-- the same for the plaintext read from the source
abbrev pub EncryptsGiven : (limits : Bounds) (fresh : Fresh) (gathered : Gathering)
    (source : Flow) (sink : Moved) (r : Result Done Fault) → Type 0
EncryptsGiven limits fresh gathered source sink r =
    OfGiven source (λ plain. EncryptsText limits fresh gathered plain sink r)

-- the fault is the first of `IsRefusal`, or a device's, `TooManyChunks` or `OutOfMemory`
abbrev pub RefusesFirst : (limits : Bounds) (k : FileKey) (gathered : Gathering) (fault : Fault)
    → Type 0
RefusesFirst limits k gathered TooManyChunks = ⊤
RefusesFirst limits k gathered Read = ⊤
RefusesFirst limits k gathered Write = ⊤
RefusesFirst limits k gathered OutOfMemory = ⊤
RefusesFirst limits k gathered fault = IsRefusal limits k gathered fault

-- the result of wrapping for all recipients
abbrev pub WrapsAll : (wrapped : Result (List StanzaParts) Fault)
    (result : Result (Vec StanzaParts Global) Fault) → Type 0
WrapsAll wrapped (Ok stanzas) = wrapped ≡ Ok stanzas.items
WrapsAll wrapped (Err fault) =
    (fault ≡ OutOfMemory)
    ⊎ ((i : ℕ) × (code : ℕ) × (fault ≡ Refused i code) × (wrapped ≡ Err (Refused i code)))

-- the result of gathering the stanzas of recipients
abbrev pub Gathers : (gathered : Gathering) (result : Result (Vec StanzaParts Global) Fault)
    → Type 0
Gathers gathered (Ok stanzas) = gathered (Ok stanzas.items)
Gathers gathered (Err fault) = (fault ≡ OutOfMemory)
    ⊎ (((i : ℕ) × (code : ℕ) × (fault ≡ Refused i code) × gathered (Err (Refused i code)))
    ⊎ ((i : ℕ) × (fault ≡ IncompatibleRecipients i) × gathered (Err (IncompatibleRecipients i))))

-- the faults with which no header is made
abbrev pub FailsHeading : (limits : Bounds) (k : FileKey) (gathered : Gathering) (fault : Fault)
    → Type 0
FailsHeading limits k gathered fault = (fault ≡ OutOfMemory) ⊎ IsRefusal limits k gathered fault

-- a whole chunk was read from the source
abbrev pub FillsChunk : (source : Flow) → Type 0
FillsChunk source = OfGiven source (λ text. chunk_size ≤ length text)

-- At most n + 2 chunks of plaintext were read from the source, for an n such that at least n full
-- sealed chunks were written after the header and the nonce.
pub record TookChunks (limits : Bounds) (fresh : Fresh) (gathered : Gathering)
    (source : Flow) (sink : Moved) : Type 0 where
  pub text : Bytes
  pub header : IsNewHeader limits fresh.file_key gathered text
  pub written : Bytes
  pub gained : Took sink written
  pub n : ℕ
  pub whole : sealed_chunk_size * n ≤ length written - (length text + nonce_size)
  pub gave : GaveAtMost (chunk_size * (n + 2)) source

-- How much of the source was read if encrypting ended at a write, or with too many chunks; nothing
-- is said about a failed read. At any other fault nothing was read.
abbrev pub TookWhileEncrypting : (limits : Bounds) (fresh : Fresh) (gathered : Gathering)
    (source : Flow) (sink : Moved) (fault : Fault) → Type 0
TookWhileEncrypting limits fresh gathered source sink TooManyChunks =
    TookChunks limits fresh gathered source sink
TookWhileEncrypting limits fresh gathered source sink Write =
    TookChunks limits fresh gathered source sink
TookWhileEncrypting limits fresh gathered source sink Read = ⊤
TookWhileEncrypting limits fresh gathered source sink _ = Gave source []
