use Rattle.agefile.proofs.VerdictLemmas.{opened_range, refused_range}
use Rattle.agefile.proofs.RangeLemmas.{last_there, len_there, slice_there}
use Rattle.agefile.proofs.laws.ranges_in_steps.Goals as goal

pub returns : goal.returns
returns c = record {
  refused = refused_range;
  opened = opened_range;
  last = λ r b. last_there r b;
  len = λ r b text. len_there r b text;
  slice = λ r b text at. slice_there r b text at;
}
