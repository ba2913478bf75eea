-- The texts of faults.
use Rattle.std.specs.Prelude.{◌++◌, List, ℕ, codes}
use Rattle.std.specs.Fmt.{decimal}
use Rattle.age_recipient.specs.Texts.{stanza_fault_text}
use Rattle.age_file.specs.declared.fault.Fault.{Fault}
use Rattle.age_file.specs.declared.fault.Fault.TheVariants as fault

abbrev pub fault_text : (fault : Fault) → List ℕ
fault_text fault.NotAge = codes "not an age file"
fault_text (fault.BadLine line) = codes "bad header line " ++ decimal line
fault_text fault.HeaderTruncated = codes "header is cut short"
fault_text fault.HeaderTooLarge = codes "header is too large"
fault_text fault.MixedPassphrase = codes "a passphrase stanza must stand alone"
fault_text fault.NoMatch = codes "no key fits this file"
fault_text fault.WrongKey = codes "wrong passphrase or key"
fault_text (fault.Malformed part) = codes "malformed stanza: " ++ stanza_fault_text part
fault_text fault.BadMac = codes "header check failed"
fault_text fault.NonceTruncated = codes "payload nonce is cut short"
fault_text (fault.ChunkShort chunk) = codes "chunk " ++ decimal chunk ++ codes " is cut short"
fault_text (fault.EmptyFinal chunk) = codes "chunk " ++ decimal chunk ++ codes " is empty"
fault_text (fault.BadChunk chunk) = codes "chunk " ++ decimal chunk ++ codes " is damaged"
fault_text fault.TooManyChunks = codes "too many chunks"
fault_text fault.Read = codes "read failed"
fault_text fault.Write = codes "write failed"
fault_text fault.OutOfMemory = codes "out of memory"
fault_text fault.NoRecipients = codes "no recipients"
fault_text (fault.Refused index code) =
    codes "recipient " ++ decimal index ++ codes " refused: " ++ decimal code
fault_text (fault.IncompatibleRecipients index) =
    codes "recipient " ++ decimal index ++ codes " does not go with recipient 0"
