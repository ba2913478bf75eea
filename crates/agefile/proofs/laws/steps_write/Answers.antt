use Rattle.agefile.proofs.RunLemmas.{steps_write}
use Rattle.agefile.proofs.laws.steps_write.Goals as goal

pub returns : goal.returns
returns c = steps_write
