use Rattle.age_stream.proofs.CuttingLemmas.{one_cut_both}
use Rattle.age_stream.proofs.laws.one_cut.Goals as goal

pub returns : goal.returns
returns c = one_cut_both
