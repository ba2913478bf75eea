use Rattle.agefile.proofs.UnlockLemmas.{opens_unlocked, unlocking_refused}
use Rattle.agefile.proofs.laws.unlocked_opens.Goals as goal

pub returns : goal.returns
returns c = record { refused = unlocking_refused; opens = opens_unlocked }
