-- The codes of `agefile.h` except 24, which only code in C returns; what a report says of a fault.
use Rattle.std.specs.Prelude.{◌-◌, ◌^◌}
use Rattle.agefile.specs.Words.{ℕ, min, Option, Some, None, Fault, NotAge, BadLine, HeaderTruncated, HeaderTooLarge, MixedPassphrase, NoMatch, WrongKey, Malformed, BadMac, NonceTruncated, ChunkShort, EmptyFinal, BadChunk, TooManyChunks, Read, Write, OutOfMemory, NoRecipients, Refused, IncompatibleRecipients}
use Rattle.age_recipient.specs.declared.unwrapped.StanzaFault.{StanzaFault}
use Rattle.age_recipient.specs.declared.unwrapped.StanzaFault.TheVariants.{ArgCount, Salt, WorkFactorText, WorkFactorTooHigh, BodyLength, Other}

-- no fault
abbrev pub ok : ℕ
ok = 0

-- an allocation was refused
abbrev pub out_of_memory : ℕ
out_of_memory = 17

-- a buffer or an array is too small for the output
abbrev pub too_small : ℕ
too_small = 21

-- a work factor, or an identity's maximum, is not 1 to 30
abbrev pub bad_work_factor : ℕ
bad_work_factor = 22

-- there is no such offset, the chunk has another length, or the call is out of order
abbrev pub out_of_order : ℕ
out_of_order = 23

-- the arguments of a stanza are not words of visible characters, joined by single spaces
abbrev pub bad_arguments : ℕ
bad_arguments = 25

-- a new stanza's passphrase is empty
abbrev pub empty_passphrase : ℕ
empty_passphrase = 26

-- the code of a fault
abbrev pub fault_code : Fault → ℕ
fault_code NotAge = 1
fault_code (BadLine _) = 2
fault_code HeaderTruncated = 3
fault_code HeaderTooLarge = 4
fault_code MixedPassphrase = 5
fault_code NoMatch = 6
fault_code WrongKey = 7
fault_code (Malformed _) = 8
fault_code BadMac = 9
fault_code NonceTruncated = 10
fault_code (ChunkShort _) = 11
fault_code (EmptyFinal _) = 12
fault_code (BadChunk _) = 13
fault_code TooManyChunks = 14
fault_code Read = 15
fault_code Write = 16
fault_code OutOfMemory = 17
fault_code NoRecipients = 18
fault_code (Refused _ _) = 19
fault_code (IncompatibleRecipients _) = 20

-- a payload, read or to be written, has more chunks than the limit
abbrev pub too_many_chunks : ℕ
too_many_chunks = fault_code TooManyChunks

-- the line or the chunk of a fault, else 0; a chunk's number saturates at 2^64 - 1
abbrev pub fault_place : Fault → ℕ
fault_place (BadLine line) = line
fault_place (ChunkShort i) = min i (2 ^ 64 - 1)
fault_place (EmptyFinal i) = min i (2 ^ 64 - 1)
fault_place (BadChunk i) = min i (2 ^ 64 - 1)
fault_place _ = 0

-- the number of a malformed part; this library's own identities never return `Other`
abbrev pub part_number : StanzaFault → ℕ
part_number ArgCount = 1
part_number Salt = 2
part_number WorkFactorText = 3
part_number WorkFactorTooHigh = 4
part_number BodyLength = 5
part_number (Other reason) = 0

-- the number of a stanza's malformed part; 0 for any other fault
abbrev pub fault_detail : Fault → ℕ
fault_detail (Malformed part) = part_number part
fault_detail _ = 0

-- the code of a fault, or 0 if there is none
abbrev pub code_of : Option Fault → ℕ
code_of None = ok
code_of (Some fault) = fault_code fault
