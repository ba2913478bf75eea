use Rattle.std.proofs.Common.{arith}
use Rattle.agefile.proofs.SealingLemmas.{first_sealed}
use Rattle.agefile.proofs.sealing.seal_first.Goals as goal

pub returns : goal.returns
returns c =
    first_sealed c.args.key.now c.args.number c.min-size.result c.args.left.now c.copy_from_slice.new.self
    c.split_at_mut-front.result.1.now c.args.room.now c.min-size.ensures
    c.split_at.ensures.front c.copy_from_slice.ensures.after
    (omega (arith, c.split_at_mut-front.ensures.back_len, c.split_at_mut-chunk.ensures.front_len))
    c.seal_chunk.ensures.sealed
    c.split_at_mut-chunk.ensures.back
