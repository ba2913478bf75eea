use Rattle.age_header.proofs.HeaderLemmas.{signed_prefix}
use Rattle.age_header.proofs.laws.signed_prefix.Goals as goal

pub returns : goal.returns
returns c = signed_prefix
