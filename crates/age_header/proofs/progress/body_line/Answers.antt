use Rattle.age_header.proofs.Common.{arith, common_steps}
use Rattle.age_header.proofs.StepsLemmas.{no_base64, too_long}
use Rattle.age_header.proofs.progress.body_line.Goals as goal

pub returns-in_default-clause-none : goal.returns-in_default-clause-none
returns-in_default-clause-none c s h = grind (arith, no_base64, c.in_ok-more.ensures.none)

pub returns-then-text-gt-LINE_SIZE-clause-none : goal.returns-then-text-gt-LINE_SIZE-clause-none
returns-then-text-gt-LINE_SIZE-clause-none c s h = too_long _ _ _ _ s c.if-text-gt-LINE_SIZE.true h

pub returns-then-text-eq-LINE_SIZE-clause-some : goal.returns-then-text-eq-LINE_SIZE-clause-some
returns-then-text-eq-LINE_SIZE-clause-some c = grind (arith, common_steps)

pub returns-clause-some : goal.returns-clause-some
returns-clause-some c = grind (arith, common_steps)
