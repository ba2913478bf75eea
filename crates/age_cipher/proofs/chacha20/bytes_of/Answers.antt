use Rattle.age_cipher.proofs.Common.{arith, common_steps}
use Rattle.age_cipher.proofs.chacha20.bytes_of.Goals as goal

pub words-preserved : goal.words-preserved
words-preserved c = grind (arith, common_steps)
