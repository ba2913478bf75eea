use Rattle.age_stream.proofs.Common.{rules, arith, take, length-take-le}
use Rattle.age_stream.proofs.SalvageLemmas.{part_short}
use Rattle.age_stream.proofs.salvaging.save_piece.Goals as goal

pub returns-then-end-lt-TAG_SIZE-clause-part : goal.returns-then-end-lt-TAG_SIZE-clause-part
returns-then-end-lt-TAG_SIZE-clause-part c =
    part_short c.args.key.now c.args.i c.args.last (take c.args.end c.args.bytes.now) c.args.end c.args.bytes.now
    (length-take-le c.args.end c.args.bytes.now (search rules)) (omega arith)
