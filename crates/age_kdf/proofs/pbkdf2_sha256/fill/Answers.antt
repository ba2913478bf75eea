use Rattle.age_kdf.proofs.Common.{rules, sym, [], take_all, pbkdf2_blocks}
use Rattle.age_kdf.proofs.Pbkdf2Lemmas.{length-pbkdf2_blocks}
use Rattle.age_kdf.proofs.pbkdf2_sha256.fill.Goals as goal

pub each_block-init : goal.each_block-init
unfolding pbkdf2_blocks
each_block-init c pass salt keyed salted = sym (take_all _ [] (search rules))

pub each_block-preserved : goal.each_block-preserved
unfolding pbkdf2_blocks
each_block-preserved c pass salt keyed salted = search (rules, length-pbkdf2_blocks)
