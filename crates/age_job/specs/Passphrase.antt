-- The passphrase in a file.
use Rattle.std.specs.Prelude.{ℕ, ◌-◌, ◌≡◌, ◌<◌, ◌||◌, Bool, false, List, [], ◌∷◌, length, take, if◌then◌else◌, nat_eq, slice_index_or}
use Rattle.std.specs.List.{ends_with, starts_with}

-- the bytes without one LF (10) at their end
abbrev pub passphrase_of : (bytes : List ℕ) → List ℕ
passphrase_of bytes =
    if nat_eq (slice_index_or bytes (length bytes - 1) 0) 10
    then take (length bytes - 1) bytes else bytes

-- whether bytes begin with a byte-order mark: U+FEFF in UTF-8, ef bb bf in hexadecimal digits, or
-- in UTF-16, ff fe or fe ff
abbrev pub begins_with_mark : (bytes : List ℕ) → Bool
begins_with_mark bytes = starts_with nat_eq bytes (239 ∷ 187 ∷ 191 ∷ [])
    || (starts_with nat_eq bytes (255 ∷ 254 ∷ []) || starts_with nat_eq bytes (254 ∷ 255 ∷ []))

-- whether bytes end in CR or LF, whose codes are 13 and 10
abbrev pub ends_in_line_end : (bytes : List ℕ) → Bool
ends_in_line_end bytes =
    ends_with nat_eq bytes (13 ∷ []) || ends_with nat_eq bytes (10 ∷ [])

-- A passphrase for a new file. It is not empty, does not begin with a byte-order mark, and does not
-- end in CR or LF: an editor writes these, and nobody types them.
abbrev pub IsNewPassphrase : (bytes : List ℕ) → Type 0
IsNewPassphrase bytes =
    (0 < length bytes) × (begins_with_mark bytes ≡ false) × (ends_in_line_end bytes ≡ false)
