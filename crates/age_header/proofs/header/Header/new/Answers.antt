use Rattle.age_header.proofs.Common.{rules, common_steps, take_all}
use Rattle.age_header.proofs.header.Header.new.Goals as goal

pub invariant_of-result : goal.invariant_of-result
invariant_of-result c =
    search (rules, take_all, common_steps, c.deref-stanza-items.ensures.value, c.loop-stanza.invariant)
