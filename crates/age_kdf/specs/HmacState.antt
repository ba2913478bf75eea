-- The text fed to an HMAC so far.
use Rattle.std.specs.Prelude.{◌++◌}
use Rattle.age_kdf.specs.Bytes.{Bytes}
use Rattle.sha2.specs.Hashers.{Holds256}
use Rattle.age_kdf.specs.Hmac.{padded_key}
use Rattle.age_kdf.specs.declared.hmac_sha256.Mac.{Mac}

-- The state began with the key and was fed the text: the inner hash holds K XOR ipad and the text,
-- the outer one K XOR opad.
unfoldable pub IsFed : (mac : Mac) (key text : Bytes) → Type 0
IsFed mac key text =
    Holds256 mac.inner (padded_key key 0x36 ++ text) × Holds256 mac.outer (padded_key key 0x5c)
