use Rattle.age_stream.proofs.Common.{arith, common_steps}
use Rattle.age_stream.proofs.loading.read_after.Goals as goal

pub returns-clause-read : goal.returns-clause-read
returns-clause-read g c = grind (arith, common_steps)
