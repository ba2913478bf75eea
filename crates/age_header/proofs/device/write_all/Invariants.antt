use Rattle.age_header.proofs.Common.{◌≡◌, ◌≤◌, ◌-◌, length, take, Appends}
use Rattle.age_header.proofs.device.write_all.Given as goal

abbrev pub invariant-loop-at : goal.invariant-loop-at
invariant-loop-at g l = record {
  within : l.at ≤ length l.piece;
  written : Appends (g.W.Sink.taken l.fn.out) (g.W.Sink.taken l.out) (take l.at l.piece);
  count : g.W.Sink.failed l.out ≡ g.W.Sink.failed l.fn.out;
}

abbrev pub decreases-loop-at : goal.decreases-loop-at
decreases-loop-at g l = length l.piece - l.at
