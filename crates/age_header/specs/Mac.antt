-- The MAC of a header (C2SP age.md, "Header MAC").
use Rattle.std.specs.Prelude.{List, [], codes}
use Rattle.age_kdf.specs.Bytes.{Bytes}
use Rattle.age_kdf.specs.Hmac.{hmac}
use Rattle.age_kdf.specs.Hkdf.{hkdf}
use Rattle.age_header.specs.Header.{StanzaParts}
use Rattle.age_header.specs.Text.{signed_text}

-- HMAC-SHA-256 of the header up to and including `---`, under a key of 32 bytes that HKDF-SHA-256
-- derives from the file key
unfoldable pub header_mac : (file_key : Bytes) (stanzas : List StanzaParts) → Bytes
header_mac file_key stanzas = hmac (hkdf file_key [] (codes "header") 32) (signed_text stanzas)
