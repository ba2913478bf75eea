use Rattle.age_header.proofs.VerdictUniqueLemmas.{begins_found, found_begins}
use Rattle.age_header.proofs.laws.one_verdict.Goals as goal

pub returns-clause-header : goal.returns-clause-header
returns-clause-header c b max found = (begins_found b max found, found_begins b max found)
