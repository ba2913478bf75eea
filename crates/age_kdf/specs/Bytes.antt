-- Names for lists of numbers. The bounds given here are not part of the types.
use Rattle.std.specs.Prelude.{ℕ, List}

-- bytes, each a number below 256
abbrev pub Bytes : Type 0
Bytes = List ℕ

-- words, each a number below 2 ^ 32
abbrev pub Words : Type 0
Words = List ℕ
