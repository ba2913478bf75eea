use Rattle.age_recipient.proofs.Common.{arith}
use Rattle.age_recipient.proofs.StanzaLemmas.{no_salt}
use Rattle.age_recipient.proofs.stanza_list.salt_of.Goals as goal

pub returns : goal.returns
returns c = grind (arith, no_salt)
