use Rattle.age_recipient.proofs.Common.{sym, ◌∙◌}
use Rattle.age_recipient.proofs.AnswerLemmas.{decided_step}
use Rattle.age_recipient.proofs.stanza_list.first_opened.Goals as goal

pub returns-in-Err-clause-answer : goal.returns-in-Err-clause-answer
returns-in-Err-clause-answer g c =
    sym (c.in-Err.ensures.decides _) ∙ (sym
    (decided_step _ _ _ c.loop-stanza-test.true c.stanza-item.is c.in_ok-open.ensures.answer) ∙ c.loop-stanza.invariant)
