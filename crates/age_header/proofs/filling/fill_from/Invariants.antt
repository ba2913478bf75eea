use Rattle.age_header.proofs.Common.{◌≡◌, ◌-◌, length, flow_by, Filled}
use Rattle.age_header.proofs.filling.fill_from.Given as goal

abbrev pub invariant-loop-at : goal.invariant-loop-at
invariant-loop-at g l = record {
  size : length l.buf ≡ length l.fn.buf;
  filled : Filled l.start l.at l.fn.buf l.buf (flow_by g.S.Source.to_come g.S.Source.gave l.fn.input l.input);
  count : g.S.Source.failed l.input ≡ g.S.Source.failed l.fn.input;
}

abbrev pub decreases-loop-at : goal.decreases-loop-at
decreases-loop-at g l = length l.buf - l.at
