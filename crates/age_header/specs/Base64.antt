-- Base64 without padding (RFC 4648, sections 3.2, 3.5 and 4), as a relation between bytes and
-- characters. It is canonical: the pad bits are zero.
use Rattle.std.specs.Prelude.{◌≡◌, ℕ, ◌+◌, ◌*◌, ◌/◌, ◌%◌, ◌<◌, ◌==◌, [], ◌∷◌, slice_index, codes, if◌then◌else◌}
use Rattle.std.specs.List.{position_or_len}
use Rattle.std.specs.Str.{bytes_eq}
use Rattle.std.specs.declared.option.Option.{Option}
use Rattle.std.specs.declared.option.Option.TheVariants.{None, Some}
use Rattle.age_kdf.specs.Bytes.{Bytes}
use Rattle.base64.specs.Rfc4648.{encode_symbols}

-- the 64 characters, by their values
unfoldable pub alphabet : Bytes
alphabet = codes "ABCDEFGHIJKLMNOPQRSTUVWXYZabcdefghijklmnopqrstuvwxyz0123456789+/"

-- the character c encodes the six bits v
abbrev pub StandsFor : (c v : ℕ) → Type 0
StandsFor c v = (v < 64) × (c ≡ slice_index alphabet v)

-- one byte as two characters: its eight bits, then four zero bits
abbrev pub IsOne : (a p q : ℕ) → Type 0
IsOne a p q =
    (u : ℕ) × (v : ℕ) × StandsFor p u × StandsFor q v × (a < 256) × (a * 16 ≡ u * 64 + v)

-- two bytes as three characters: their sixteen bits, then two zero bits
abbrev pub IsTwo : (a b p q r : ℕ) → Type 0
IsTwo a b p q r =
    (u : ℕ) × (v : ℕ) × (w : ℕ) × StandsFor p u × StandsFor q v × StandsFor r w
    × (a < 256) × (b < 256) × ((a * 256 + b) * 4 ≡ (u * 64 + v) * 64 + w)

-- three bytes as four characters, the same twenty-four bits
abbrev pub IsThree : (a b c p q r s : ℕ) → Type 0
IsThree a b c p q r s =
    (u : ℕ) × (v : ℕ) × (w : ℕ) × (x : ℕ) × StandsFor p u × StandsFor q v × StandsFor r w
    × StandsFor s x × (a < 256) × (b < 256) × (c < 256)
    × ((a * 256 + b) * 256 + c ≡ ((u * 64 + v) * 64 + w) * 64 + x)

-- the characters are the base64 of the bytes
unfoldable pub IsBase64 : (bytes characters : Bytes) → Type 0
IsBase64 [] [] = Unit {0}
IsBase64 (a ∷ []) (p ∷ q ∷ []) = IsOne a p q
IsBase64 (a ∷ b ∷ []) (p ∷ q ∷ r ∷ []) = IsTwo a b p q r
IsBase64 (a ∷ b ∷ c ∷ bytes) (p ∷ q ∷ r ∷ s ∷ characters) =
    IsThree a b c p q r s × IsBase64 bytes characters
IsBase64 _ _ = ⊥

-- the base64 of bytes, as a function
unfoldable pub base64_of : Bytes → Bytes
base64_of bytes = encode_symbols alphabet bytes

-- the value of a character of the alphabet, and 64 for any other
unfoldable pub value_of : ℕ → ℕ
value_of c = position_or_len (λ b. b == c) alphabet

-- the only bytes whose base64 these characters may be
unfoldable pub candidate : Bytes → Bytes
candidate (p ∷ q ∷ []) = (value_of p * 4 + value_of q / 16) % 256 ∷ []
candidate (p ∷ q ∷ r ∷ []) =
    (value_of p * 4 + value_of q / 16) % 256 ∷ (value_of q * 16 + value_of r / 4) % 256 ∷ []
candidate (p ∷ q ∷ r ∷ s ∷ characters) =
    (value_of p * 4 + value_of q / 16) % 256 ∷ (value_of q * 16 + value_of r / 4) % 256
    ∷ (value_of r * 64 + value_of s) % 256 ∷ candidate characters
candidate _ = []

-- the bytes whose base64 these characters are, if there are any: the only candidate is checked
unfoldable pub decoded_bytes : Bytes → Option Bytes
decoded_bytes characters =
    if bytes_eq (base64_of (candidate characters)) characters then Some (candidate characters)
    else None
