use Rattle.age_kdf.proofs.Common.{arith, rules, refl, ◌+◌, ◌*◌, ◌^◌}
use Rattle.age_kdf.proofs.RoMixLemmas.{rows_apart}
use Rattle.age_kdf.proofs.ScryptLemmas.{part_mixed}
use Rattle.age_kdf.proofs.scrypt_kdf.mix_parts.Goals as goal

pub each_part-preserved : goal.each_part-preserved
each_part-preserved c =
    let i = c.each_part.i in
    let size = 32 * c.args.r in
    part_mixed c.args.r (2 ^ c.args.log_n) size i (size * (i + 1)) c.args.parts.now c.each_part.parts
    refl (omega arith) (omega arith) c.each_part.invariant.done c.each_part.invariant.rest
    c.romix.ensures (search rules)
    (omega (arith, rows_apart size c.args.p i (omega arith), c.each_part.auto.parts))
