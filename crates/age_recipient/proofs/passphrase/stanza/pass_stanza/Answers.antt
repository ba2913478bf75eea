use Rattle.age_recipient.proofs.Common.{arith, pass_stanza}
use Rattle.age_recipient.proofs.StanzaLemmas.{of_parts}
use Rattle.age_recipient.proofs.passphrase.stanza.pass_stanza.Goals as goal

pub returns : goal.returns
unfolding pass_stanza
returns c = grind (arith, of_parts)
