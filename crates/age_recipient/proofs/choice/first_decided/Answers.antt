use Rattle.age_recipient.proofs.Common.{sym, ◌∙◌}
use Rattle.age_recipient.proofs.AnswerLemmas.{decided_step}
use Rattle.age_recipient.proofs.choice.first_decided.Goals as goal

pub returns-in-Err-clause-answer : goal.returns-in-Err-clause-answer
returns-in-Err-clause-answer g c =
    sym (c.in-Err.ensures.decides _) ∙ (sym
    (decided_step _ _ _ c.loop-identity-test.true c.identity-item.is c.in_ok-ask.ensures.answer)
    ∙ c.loop-identity.invariant.decided)
