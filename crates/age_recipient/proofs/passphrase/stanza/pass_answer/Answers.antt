use Rattle.age_recipient.proofs.Common.{arith}
use Rattle.age_recipient.proofs.AnswerLemmas.{if_err_of}
use Rattle.age_recipient.proofs.passphrase.stanza.pass_answer.Goals as goal

pub returns-in-Some-clause-memory : goal.returns-in-Some-clause-memory
returns-in-Some-clause-memory c = grind (arith, if_err_of)
