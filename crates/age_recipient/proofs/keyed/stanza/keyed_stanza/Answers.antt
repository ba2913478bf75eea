use Rattle.age_recipient.proofs.Common.{arith, keyed_stanza}
use Rattle.age_recipient.proofs.StanzaLemmas.{of_parts}
use Rattle.age_recipient.proofs.keyed.stanza.keyed_stanza.Goals as goal

pub returns : goal.returns
unfolding keyed_stanza
returns c = grind (arith, of_parts)
