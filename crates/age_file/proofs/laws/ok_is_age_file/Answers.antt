use Rattle.age_file.proofs.FileLemmas.{both_ways, one_verdict}
use Rattle.age_file.proofs.laws.ok_is_age_file.Goals as goal

pub returns-clause-ok : goal.returns-clause-ok
returns-clause-ok c = both_ways

pub returns-clause-one : goal.returns-clause-one
returns-clause-one c = one_verdict
