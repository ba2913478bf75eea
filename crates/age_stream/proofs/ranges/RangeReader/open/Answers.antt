use Rattle.std.proofs.Common.{rules}
use Rattle.age_stream.proofs.ranges.RangeReader.open.Goals as goal

pub returns-in-Err-clause-refuses : goal.returns-in-Err-clause-refuses
returns-in-Err-clause-refuses g c = rw (c.of.ensures.unchanged, c.of.ensures.fault) (search rules)
