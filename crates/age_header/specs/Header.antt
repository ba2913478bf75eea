-- The header of an age v1 file (C2SP age.md, "Header"), as a relation between its parts and its
-- bytes.
use Rattle.std.specs.Prelude.{◌≡◌, ◌≢◌, ℕ, ◌<◌, ◌≤◌, List, [], ◌∷◌, ◌++◌, length, codes, flat_map}
use Rattle.std.specs.List.{concat, AllByRecursion}
use Rattle.age_kdf.specs.Bytes.{Bytes}
use Rattle.age_header.specs.Base64.{IsBase64}

-- a stanza: its arguments, each as its bytes, and its body
pub record StanzaParts : Type 0 where
  pub args : List Bytes
  pub body : Bytes

-- a line, with its LF
abbrev pub line : Bytes → Bytes
line text = text ++ 10 ∷ []

-- the version line
unfoldable pub version_line : Bytes
version_line = line (codes "age-encryption.org/v1")

-- the length of the version line in bytes, with its LF
abbrev pub version_size : ℕ
version_size = 22

-- the number of base64 characters in a full line of a stanza's body
abbrev pub line_size : ℕ
line_size = 64

-- the number of bytes of a body that a full line encodes
abbrev pub bytes_of_a_line : ℕ
bytes_of_a_line = 48

-- the length of a MAC in bytes
abbrev pub mac_size : ℕ
mac_size = 32

-- a visible ASCII character
abbrev pub IsVisible : ℕ → Type 0
IsVisible c = (33 ≤ c) × (c ≤ 126)

-- an argument: one or more visible characters
abbrev pub IsArgument : Bytes → Type 0
IsArgument a = (a ≢ []) × AllByRecursion IsVisible a

-- one or more arguments
abbrev pub AreArguments : List Bytes → Type 0
AreArguments args = (args ≢ []) × AllByRecursion IsArgument args

-- `->`, each argument after a space, and an LF
abbrev pub argument_line : List Bytes → Bytes
argument_line args = line (codes "->" ++ flat_map (λ a. 32 ∷ a) args)

-- a body line of 64 characters
abbrev pub IsFullLine : Bytes → Type 0
IsFullLine characters = length characters ≡ line_size

-- The text of a stanza: its argument line, full lines, and a last line of fewer than 64 characters.
-- The full lines and the last line, concatenated without their LFs, are the base64 of the body.
pub record IsStanza (s : StanzaParts) (text : Bytes) : Type 0 where
  pub full : List Bytes
  pub last : Bytes
  pub arguments : AreArguments s.args
  pub cut : AllByRecursion IsFullLine full × (length last < line_size)
  pub body : IsBase64 s.body (concat full ++ last)
  pub spelled : text ≡ argument_line s.args ++ flat_map line full ++ line last

-- the texts of stanzas, concatenated
abbrev pub AreStanzas : (stanzas : List StanzaParts) (text : Bytes) → Type 0
AreStanzas [] text = text ≡ []
AreStanzas (s ∷ ss) text =
    (x : Bytes) × (y : Bytes) × IsStanza s x × AreStanzas ss y × (text ≡ x ++ y)

-- The header of these stanzas, one or more, and this MAC of 32 bytes: the version line, the
-- stanzas, and the end line.
pub record Head (stanzas : List StanzaParts) (mac : Bytes) (h : Bytes) : Type 0 where
  pub body : Bytes
  pub characters : Bytes
  pub some : stanzas ≢ []
  pub stanza_text : AreStanzas stanzas body
  pub mac_len : length mac ≡ mac_size
  pub mac_text : IsBase64 mac characters
  pub spelled : h ≡ version_line ++ body ++ line (codes "--- " ++ characters)

-- a header as a value: its stanzas and its MAC
pub record HeaderParts : Type 0 where
  pub stanzas : List StanzaParts
  pub mac : Bytes
