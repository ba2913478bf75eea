use Rattle.age_commands.proofs.Common.{decision_from, key_unwraps}
use Rattle.age_commands.proofs.SecretLemmas.{keys_step}
use Rattle.age_commands.proofs.identity.unwrap_by_keys.Goals as goal

pub returns-in-Err-clause-answer : goal.returns-in-Err-clause-answer
returns-in-Err-clause-answer c =
    let answer = rw c.new.ensures at c.in_ok-unwrap.ensures.answer in
    keys_step (λ k. key_unwraps k c.args.stanzas.now) c.args.keys.now c.loop-key.so_far (λ more. c.in-Err.decision)
    c.loop-key-test.true answer c.in-Err.ensures.decides c.loop-key.invariant

pub loop-key-preserved : goal.loop-key-preserved
loop-key-preserved c =
    let answer = rw c.new.ensures at c.in_ok-unwrap.ensures.answer in
    keys_step (λ k. key_unwraps k c.args.stanzas.now) c.args.keys.now c.loop-key.so_far (decision_from c.in-Ok.next)
    c.loop-key-test.true answer c.in-Ok.ensures.continues c.loop-key.invariant
