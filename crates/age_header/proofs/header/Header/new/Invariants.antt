use Rattle.age_header.proofs.Common.{take, AllByRecursion, IsWhole}
use Rattle.age_header.proofs.header.Header.new.Given as goal

abbrev pub invariant-loop-stanza : goal.invariant-loop-stanza
invariant-loop-stanza l = AllByRecursion IsWhole (take l.stanza-index l.stanza-items)
