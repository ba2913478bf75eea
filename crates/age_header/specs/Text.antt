-- The text of a header, part by part, its base64 engine, and the stanzas and MACs that have a text.
use Rattle.std.specs.Prelude.{◌≡◌, ◌≢◌, ℕ, zero, suc, ◌/◌, false, List, [], ◌∷◌, ◌++◌, length, take, drop, codes, flat_map}
use Rattle.std.specs.List.{AllByRecursion}
use Rattle.age_kdf.specs.Bytes.{Bytes}
use Rattle.base64.specs.GeneralPurpose.{IsBytes, IsStrict, engine_symbols, engine_config, config_padding}
use Rattle.base64.specs.declared.engine.general_purpose.GeneralPurpose.{GeneralPurpose}
use Rattle.age_header.specs.Base64.{alphabet, base64_of}
use Rattle.age_header.specs.Header.{StanzaParts, AreArguments, argument_line, line, version_line, bytes_of_a_line, mac_size}

-- an engine for the standard alphabet, without padding, that decodes canonical text only
pub record IsPlain (e : GeneralPurpose) : Type 0 where
  pub strict : IsStrict e
  pub unpadded : config_padding (engine_config e) ≡ false
  pub characters : engine_symbols e ≡ alphabet

-- n full lines, and a last line
unfoldable pub body_lines : (n : ℕ) (body : Bytes) → Bytes
body_lines zero body = line (base64_of body)
body_lines (suc n) body =
    line (base64_of (take bytes_of_a_line body)) ++ body_lines n (drop bytes_of_a_line body)

-- a line for every 48 bytes, then the last line
unfoldable pub body_text : Bytes → Bytes
body_text body = body_lines (length body / bytes_of_a_line) body

-- an argument line, and the body
unfoldable pub stanza_text : StanzaParts → Bytes
stanza_text s = argument_line s.args ++ body_text s.body

-- the header up to and including the three bytes `---`
unfoldable pub signed_text : List StanzaParts → Bytes
signed_text ss = version_line ++ flat_map stanza_text ss ++ codes "---"

-- the rest of the end line: a space, the MAC in base64, and an LF
unfoldable pub mac_end : Bytes → Bytes
mac_end mac = 32 ∷ (base64_of mac ++ 10 ∷ [])

-- a stanza that has a text
abbrev pub IsWhole : StanzaParts → Type 0
IsWhole s = AreArguments s.args × IsBytes s.body

-- stanzas and a MAC that have a text
pub record IsHeaderValue (stanzas : List StanzaParts) (mac : Bytes) : Type 0 where
  pub some : stanzas ≢ []
  pub each : AllByRecursion IsWhole stanzas
  pub mac_len : length mac ≡ mac_size
  pub mac_bytes : IsBytes mac
