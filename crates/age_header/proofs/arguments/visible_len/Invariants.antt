use Rattle.age_header.proofs.Common.{take, AllByRecursion, IsVisible}
use Rattle.age_header.proofs.arguments.visible_len.Given as goal

abbrev pub invariant-loop-i : goal.invariant-loop-i
invariant-loop-i l = AllByRecursion IsVisible (take l.i l.text)
