use Rattle.age_header.proofs.DeviceLemmas.{gave_then}
use Rattle.age_header.proofs.lines.read_line.Goals as goal

pub returns-then-is_err-clause-lost : goal.returns-then-is_err-clause-lost
returns-then-is_err-clause-lost g c =
    (_, gave_then c.loop.invariant.bytes (rw c.in-Ok-Some.field-0-is at c.in-Ok-Some.ensures.some))
