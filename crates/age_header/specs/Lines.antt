-- Reading one line from a source.
use Rattle.std.specs.Prelude.{◌≡◌, ℕ, ◌<◌, ⊤, ◌++◌, [], ◌∷◌}
use Rattle.std.specs.declared.option.Option.{Option}
use Rattle.std.specs.Io.KnownBytes.{IsAtEnd}
use Rattle.age_kdf.specs.Bytes.{Bytes}
use Rattle.age_header.specs.declared.fault.HeaderFault.{HeaderFault}
use Rattle.age_header.specs.declared.fault.HeaderFault.TheVariants.{Read, Memory}
use Rattle.age_header.specs.declared.lines.LineEnd.{LineEnd}
use Rattle.age_header.specs.declared.lines.LineEnd.TheVariants.{Lf, Input, Room}

-- the bytes read for a line
abbrev pub line_bytes : (text : Bytes) (end : LineEnd) → Bytes
line_bytes text Lf = text ++ 10 ∷ []
line_bytes text Input = text
line_bytes text Room = text

-- a line of len bytes has this end: max_len for `Room`, else fewer; no bytes to come for `Input`
abbrev pub IsEnd : (end : LineEnd) (len max_len : ℕ) (left : Option Bytes) → Type 0
IsEnd Lf len max_len left = len < max_len
IsEnd Input len max_len left = (len < max_len) × IsAtEnd left
IsEnd Room len max_len left = len ≡ max_len

-- a fault that is not of the bytes: a failed read, or refused memory
abbrev pub IsOutside : HeaderFault → Type 0
IsOutside Read = ⊤
IsOutside Memory = ⊤
IsOutside _ = ⊥
