use Rattle.age_kdf.proofs.Common.{arith, pbkdf2_blocks, common_steps}
use Rattle.age_kdf.proofs.ListLemmas.{full}
use Rattle.age_kdf.proofs.Pbkdf2Lemmas.{length-pbkdf2_blocks, pbkdf2_whole}
use Rattle.age_kdf.proofs.ScryptLemmas.{block_loaded}
use Rattle.age_kdf.proofs.scrypt_kdf.load.Goals as goal

pub each_block-preserved : goal.each_block-preserved
unfolding pbkdf2_blocks
each_block-preserved c pass salt keyed salted = grind (arith, common_steps, block_loaded, length-pbkdf2_blocks)

pub returns : goal.returns
returns c pass salt keyed salted = grind (arith, common_steps, full, pbkdf2_whole)
