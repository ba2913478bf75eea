use Rattle.agefile.proofs.UnlockLemmas.{whole_unlocks}
use Rattle.agefile.proofs.unlocking.agefile_unlock_passphrase.Goals as goal

pub returns-in-Some-clause-fit : goal.returns-in-Some-clause-fit
returns-in-Some-clause-fit c b near fits = search (whole_unlocks, near, c.in-Some.ensures.some.1, c.give_key.ensures)
