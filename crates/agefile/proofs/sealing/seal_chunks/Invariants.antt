use Rattle.std.proofs.Common.{◌-◌, length}
use Rattle.agefile.proofs.SealingLemmas.{IsSealedTo}
use Rattle.agefile.proofs.sealing.seal_chunks.Given as goal

abbrev pub invariant-chunks : goal.invariant-chunks
invariant-chunks l = IsSealedTo l.key l.plain l.out l.at l.done l.number

abbrev pub decreases-chunks : goal.decreases-chunks
decreases-chunks l = length l.plain - l.at
