use Rattle.age_stream.proofs.WholeSlices.{whole_opens, whole_len, whole_slice}
use Rattle.age_stream.proofs.laws.whole_is_sliced.Goals as goal

pub returns : goal.returns
returns c = record { opens = whole_opens; len = whole_len; slice = whole_slice }
