-- What the command `inspect` writes and returns.
use Rattle.std.specs.Prelude.{◌≡◌, ◌≢◌, ◌^◌, ◌-◌, ◌+◌, ◌∷◌, ◌++◌, if◌then◌else◌}
use Rattle.age_commands.specs.Words.{ℕ, List, [], ⊤, Bool, true, false, Result, Ok, Err, codes, decimal, flat_map, length, min, Option, None, Some, Bytes, Flow, OfGiven, WritesPart, Moved, Took, Stays, Head, HeaderParts, StanzaParts, line, Fault, BadMac, OutOfMemory, Read, Write, Bounds, finding, header_fault}
use Rattle.std.specs.Fmt.{format_spec, styled_decimal}
use Rattle.std.specs.Str.{bytes_eq}
use Rattle.age_header.specs.declared.fault.HeaderFault.{HeaderFault}
use Rattle.age_header.specs.Base64.{IsBase64}
use Rattle.age_header.specs.Mac.{header_mac}
use Rattle.age_header.specs.Verdict.{HeaderVerdict}
use Rattle.age_commands.specs.declared.inspect.Check.{Check}
use Rattle.age_commands.specs.declared.inspect.Check.TheVariants as check

-- `None` if no file key was given; otherwise `Good` exactly if the MAC is that of the stanzas under
-- this key
abbrev pub check_of : (key : Option Bytes) (header : HeaderParts) → Check
check_of None header = check.None
check_of (Some key) header =
    if bytes_eq header.mac (header_mac key header.stanzas) then check.Good else check.Bad

abbrev pub check_name : Check → Bytes
check_name check.None = codes "none"
check_name check.Good = codes "good"
check_name check.Bad = codes "bad"

-- n in decimal, right-aligned in `width` columns, as the standard library writes it
abbrev pub padded_decimal : (width n : ℕ) → Bytes
padded_decimal width n = styled_decimal (format_spec 32 3 0 width (2 ^ 64 - 1)) n

abbrev pub spaced_arguments : List Bytes → Bytes
spaced_arguments args = flat_map (λ arg. 32 ∷ arg) args

-- the line of a stanza: its index, the length of its body, and its arguments
abbrev pub row : (index : ℕ) (stanza : StanzaParts) → Bytes
row index stanza =
    line (padded_decimal 4 index ++ codes " " ++ padded_decimal 8 (length stanza.body)
    ++ spaced_arguments stanza.args)

-- the lines of these stanzas, which are numbered from `index` on
abbrev pub rows : (index : ℕ) (stanzas : List StanzaParts) → Bytes
rows index [] = []
rows index (stanza ∷ more) = row index stanza ++ rows (index + 1) more

-- the lines before those of the stanzas
abbrev pub first_lines : (count : ℕ) → Bytes
first_lines count = codes "version age-encryption.org/v1\nstanzas " ++ decimal count ++ codes "\n"

-- the lines after the MAC
abbrev pub last_lines : (len : ℕ) (checked : Check) → Bytes
last_lines len checked =
    codes "\nheader " ++ (decimal len ++ (codes " bytes\ncheck " ++ (check_name checked
    ++ codes "\n")))

-- the table of a header
pub record IsTable (header : HeaderParts) (checked : Check) (shown : Bytes) : Type 0 where
  pub characters : Bytes
  pub text : Bytes
  pub mac : IsBase64 header.mac characters
  pub whole : Head header.stanzas header.mac text
  pub spelled : shown
      ≡ first_lines (length header.stanzas) ++ rows 0 header.stanzas ++ codes "mac " ++ characters
      ++ last_lines (min (length text) (2 ^ 64 - 1)) checked

-- the text written for a header: its own text, or the table
abbrev pub IsShown : (raw : Bool) (header : HeaderParts) (checked : Check) (shown : Bytes) → Type 0
IsShown true header checked shown = Head header.stanzas header.mac shown
IsShown false header checked shown = IsTable header checked shown

-- b begins with a header, and P holds of the result of its check and of the text written for it
pub record OfShown (limits : Bounds) (raw : Bool) (key : Option Bytes) (b : Bytes)
    (P : (checked : Check) (shown : Bytes) → Type 0) : Type 0 where
  pub header : HeaderParts
  pub text : Bytes
  pub verdict : HeaderVerdict b limits.max_header (Ok (finding text header))
  pub shown : Bytes
  pub is : IsShown raw header (check_of key header) shown
  pub holds : P (check_of key header) shown

-- The result of `inspect` for the bytes b, and its output: the text for the header, even if the MAC
-- is wrong; a prefix of this text if a write failed. On any other fault the output is empty; the
-- fault is then a failed read, refused memory, or the header's.
abbrev pub InspectsText : (limits : Bounds) (raw : Bool) (key : Option Bytes) (b : Bytes)
    (sink : Moved) (result : Result ⊤ Fault) → Type 0
InspectsText limits raw key b sink (Ok _) =
    OfShown limits raw key b (λ checked shown. (checked ≢ check.Bad) × Took sink shown)
InspectsText limits raw key b sink (Err BadMac) =
    OfShown limits raw key b (λ checked shown. (checked ≡ check.Bad) × Took sink shown)
InspectsText limits raw key b sink (Err Write) =
    OfShown limits raw key b (λ checked shown. WritesPart sink shown)
InspectsText limits raw key b sink (Err Read) = Stays sink
InspectsText limits raw key b sink (Err OutOfMemory) = Stays sink
InspectsText limits raw key b sink (Err fault) =
    (e : HeaderFault) × HeaderVerdict b limits.max_header (Err e) × (fault ≡ header_fault e)
    × Stays sink

-- the same for the bytes read from the source
abbrev pub Inspecting : (limits : Bounds) (raw : Bool) (key : Option Bytes) (source : Flow)
    (sink : Moved) (result : Result ⊤ Fault) → Type 0
Inspecting limits raw key source sink result =
    OfGiven source (λ b. InspectsText limits raw key b sink result)
