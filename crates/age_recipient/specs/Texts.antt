-- The texts of the faults of malformed stanzas.
use Rattle.std.specs.Prelude.{◌++◌, List, ℕ, codes}
use Rattle.std.specs.Fmt.{decimal}
use Rattle.age_recipient.specs.declared.unwrapped.StanzaFault.{StanzaFault}
use Rattle.age_recipient.specs.declared.unwrapped.StanzaFault.TheVariants as fault

abbrev pub stanza_fault_text : (fault : StanzaFault) → List ℕ
stanza_fault_text fault.ArgCount = codes "argument count"
stanza_fault_text fault.Salt = codes "salt"
stanza_fault_text fault.WorkFactorText = codes "work factor"
stanza_fault_text fault.WorkFactorTooHigh = codes "work factor is too high"
stanza_fault_text fault.BodyLength = codes "body length"
stanza_fault_text (fault.Other code) = codes "code " ++ decimal code
