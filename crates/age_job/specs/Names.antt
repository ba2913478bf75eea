-- The names of files in messages.
use Rattle.std.specs.Prelude.{◌++◌, ◌||◌, ◌&&◌, ℕ, List, Bool, ◌==◌, false, chars, codes, encode_utf8, flat_map, if◌then◌else◌, nat_lt}
use Rattle.std.specs.Char.{is_control}
use Rattle.std.specs.Fmt.{digits}

-- The directional formatting characters (Unicode Standard Annex 9, section 2): 61c, 200e, 200f,
-- 202a to 202e and 2066 to 2069, in hexadecimal digits.
abbrev pub directs_writing : (c : ℕ) → Bool
directs_writing c =
    (c == 1564) || (c == 8206) || (c == 8207) || (nat_lt 8233 c && nat_lt c 8239)
    || (nat_lt 8293 c && nat_lt c 8298)

-- A character in a message, which stays on one line and in order: a control character becomes `\n`,
-- `\r`, `\t` or `\x` and its code in two hexadecimal digits, a directional formatting character
-- becomes `\u{}` with its code between the braces, and any other stays as it is.
abbrev pub escaped_char : (c : ℕ) → List ℕ
escaped_char c =
    if c == 10 then codes "\\n"
    else if c == 13 then codes "\\r"
    else if c == 9 then codes "\\t"
    else if nat_lt c 16 then codes "\\x0" ++ digits 16 false c
    else if is_control c then codes "\\x" ++ digits 16 false c
    else if directs_writing c then codes "\\u{" ++ digits 16 false c ++ codes "}"
    else encode_utf8 c

-- a name in a message
abbrev pub escaped_name : (name : List ℕ) → List ℕ
escaped_name name = flat_map escaped_char (chars name)
