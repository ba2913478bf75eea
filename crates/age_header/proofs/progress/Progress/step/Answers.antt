use Rattle.age_header.proofs.Common.{within, arith, rules}
use Rattle.age_header.proofs.StepsLemmas.{no_arguments}
use Rattle.age_header.proofs.progress.Progress.step.Goals as goal

pub returns-in-None-2-clause-none : goal.returns-in-None-2-clause-none
returns-in-None-2-clause-none c s h = grind (arith, no_arguments, c.in_ok-parse-in-None.ensures.none)

pub returns-in-Some-clause-none : goal.returns-in-Some-clause-none
returns-in-Some-clause-none c = grind (arith, within, c.body_line.ensures.none)

pub returns-in-Some-clause-some : goal.returns-in-Some-clause-some
returns-in-Some-clause-some c = search (rules, within, c.body_line.ensures.some)
