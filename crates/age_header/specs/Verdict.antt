-- The header verdict on bytes: a header at their start, or the first fault.
use Rattle.std.specs.Prelude.{◌≡◌, ◌≢◌, ℕ, ◌<◌, ◌≤◌, ◌⊎◌, List, [], ◌++◌, length, take, flat_map}
use Rattle.std.specs.Io.{StartsWith}
use Rattle.std.specs.List.{concat, AllByRecursion}
use Rattle.std.specs.declared.result.Result.{Result}
use Rattle.std.specs.declared.result.Result.TheVariants.{Ok, Err}
use Rattle.age_kdf.specs.Bytes.{Bytes}
use Rattle.age_header.specs.declared.fault.HeaderFault.{HeaderFault}
use Rattle.age_header.specs.declared.fault.HeaderFault.TheVariants.{NotAge, BadLine, Truncated, TooLarge, Read, Memory}
use Rattle.age_header.specs.Base64.{IsBase64}
use Rattle.age_header.specs.Header.{StanzaParts, Head, AreStanzas, AreArguments, IsFullLine, argument_line, line, version_line, version_size}

-- an incomplete stanza: an argument line, and full lines of base64
pub record IsOpenStanza (text : Bytes) : Type 0 where
  pub args : List Bytes
  pub full : List Bytes
  pub bytes : Bytes
  pub arguments : AreArguments args
  pub cut : AllByRecursion IsFullLine full
  pub body : IsBase64 bytes (concat full)
  pub spelled : text ≡ argument_line args ++ flat_map line full

-- the version line, complete stanzas, then nothing or an incomplete stanza
pub record IsHeaderPrefix (text : Bytes) : Type 0 where
  pub stanzas : List StanzaParts
  pub whole : Bytes
  pub rest : Bytes
  pub stanza_text : AreStanzas stanzas whole
  pub rest_text : (rest ≡ []) ⊎ IsOpenStanza rest
  pub spelled : text ≡ version_line ++ whole ++ rest

-- complete lines, perhaps none, that more lines could make a header
abbrev pub IsViable : Bytes → Type 0
IsViable text = (text ≡ []) ⊎ IsHeaderPrefix text

-- the text of some stanzas and some MAC
abbrev pub IsHeader : Bytes → Type 0
IsHeader text = (stanzas : List StanzaParts) × (mac : Bytes) × Head stanzas mac text

-- a text without an LF
abbrev pub IsLineText : Bytes → Type 0
IsLineText text = AllByRecursion (λ c. c ≢ 10) text

-- the bytes of complete lines
abbrev pub lines_text : List Bytes → Bytes
lines_text ls = flat_map line ls

-- the first complete lines of b, each without its LF
pub record AreLines (ls : List Bytes) (b : Bytes) : Type 0 where
  pub rest : Bytes
  pub each : AllByRecursion IsLineText ls
  pub prefix : b ≡ lines_text ls ++ rest

-- The fewest first lines of b that are a header or not viable: any fewer first lines are viable and
-- not a header.
pub record Decides (ls : List Bytes) (b : Bytes) : Type 0 where
  pub lines : AreLines ls b
  pub decided : IsHeader (lines_text ls) ⊎ (IsViable (lines_text ls) → ⊥)
  pub first : (ks : List Bytes) → AreLines ks b → length ks < length ls
      → IsViable (lines_text ks) × (IsHeader (lines_text ks) → ⊥)

-- no number of lines decides
abbrev pub IsUndecided : Bytes → Type 0
IsUndecided b = (ls : List Bytes) → Decides ls b → ⊥

-- the first 22 bytes, or all if there are fewer, are a prefix of the version line
abbrev pub BeginsAsAge : Bytes → Type 0
BeginsAsAge b = StartsWith version_line (take version_size b)

-- a header at the start of a text: its stanzas, its MAC, and its own bytes
pub record Found : Type 0 where
  pub stanzas : List StanzaParts
  pub mac : Bytes
  pub text : Bytes

-- the lines of this header decide the first max bytes of b
pub record Finds (b : Bytes) (max : ℕ) (found : Found) : Type 0 where
  pub lines : List Bytes
  pub begun : BeginsAsAge (take max b)
  pub decides : Decides lines (take max b)
  pub is : found.text ≡ lines_text lines
  pub head : Head found.stanzas found.mac found.text

-- the fault of b under a limit of max bytes
abbrev pub IsFault : (b : Bytes) (max : ℕ) (fault : HeaderFault) → Type 0
IsFault b max NotAge = BeginsAsAge (take max b) → ⊥
IsFault b max (BadLine n) =
    BeginsAsAge (take max b)
    × ((ls : List Bytes) × (length ls ≡ n) × Decides ls (take max b)
    × (IsHeader (lines_text ls) → ⊥))
IsFault b max Truncated = BeginsAsAge (take max b) × IsUndecided (take max b) × (length b < max)
IsFault b max TooLarge = BeginsAsAge (take max b) × IsUndecided (take max b) × (max ≤ length b)
IsFault b max Read = ⊥
IsFault b max Memory = ⊥

-- the header verdict on b under a limit of max bytes
abbrev pub HeaderVerdict : (b : Bytes) (max : ℕ) (result : Result Found HeaderFault) → Type 0
HeaderVerdict b max (Ok found) = Finds b max found
HeaderVerdict b max (Err fault) = IsFault b max fault

-- b begins with this header, which is within the limit
pub record BeginsWith (b : Bytes) (max : ℕ) (found : Found) : Type 0 where
  pub rest : Bytes
  pub head : Head found.stanzas found.mac found.text
  pub prefix : b ≡ found.text ++ rest
  pub fits : length found.text ≤ max
