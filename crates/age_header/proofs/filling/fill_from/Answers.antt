use Rattle.age_header.proofs.DeviceLemmas.{some_then}
use Rattle.age_header.proofs.filling.fill_from.Goals as goal

pub returns-in-Err-clause-lost : goal.returns-in-Err-clause-lost
returns-in-Err-clause-lost g c = some_then c.loop-at.invariant.filled.bytes c.in-Err.ensures.lost
