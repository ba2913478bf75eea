use Rattle.agefile.proofs.UnlockLemmas.{whole_unlocks}
use Rattle.agefile.proofs.unlocking.agefile_unlock_key.Goals as goal

pub returns : goal.returns
returns c = record { front = λ b near. search (whole_unlocks, near, c.key_for_key.ensures, c.give_key.ensures) }
