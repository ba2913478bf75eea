use Rattle.age_file.proofs.Common.{refl}
use Rattle.age_file.proofs.OwnLabels.{keyed_index}
use Rattle.age_file.proofs.laws.own_recipients.Goals as goal

pub returns-clause-keyed : goal.returns-clause-keyed
returns-clause-keyed c = keyed_index

pub returns-clause-passphrase_first : goal.returns-clause-passphrase_first
returns-clause-passphrase_first c = λ other others. refl
