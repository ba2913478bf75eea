use Rattle.age_commands.proofs.Common.{decision_from, pass_unwraps}
use Rattle.age_commands.proofs.SecretLemmas.{answers_step}
use Rattle.age_commands.proofs.identity.unwrap_by_passphrases.Goals as goal

pub returns-in-Err-clause-answer : goal.returns-in-Err-clause-answer
returns-in-Err-clause-answer c =
    answers_step (λ g. pass_unwraps g c.args.stanzas.now) c.args.identities.now c.loop-identity.so_far
    (λ more. c.in-Err.decision) c.loop-identity-test.true c.identity-item.is c.in_ok-unwrap.ensures.answer
    c.in-Err.ensures.decides c.loop-identity.invariant

pub loop-identity-preserved : goal.loop-identity-preserved
loop-identity-preserved c =
    answers_step (λ g. pass_unwraps g c.args.stanzas.now) c.args.identities.now c.loop-identity.so_far
    (decision_from c.in-Ok.next) c.loop-identity-test.true c.identity-item.is c.in_ok-unwrap.ensures.answer
    c.in-Ok.ensures.continues c.loop-identity.invariant
