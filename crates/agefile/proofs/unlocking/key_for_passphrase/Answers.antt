use Rattle.agefile.proofs.Common.{◌∙◌, ap, read_made}
use Rattle.age_recipient.specs.PassphraseHolders.{pass_unwraps}
use Rattle.agefile.proofs.unlocking.key_for_passphrase.Goals as goal
use Rattle.agefile.proofs.unlocking.key_for_passphrase.OwnLists.{own-1, entry-1-1, at-1-1, same-1-1}

pub returns-in-Ok-new-clause-some : goal.returns-in-Ok-new-clause-some
returns-in-Ok-new-clause-some c =
    let same = read_made own-1 entry-1-1 at-1-1 same-1-1 _ (λ j y. j.1.meaning y) _ _ _ c.into_dyn_box.ensures.1
    ∙ ap pass_unwraps (c.in-Ok-new.ensures.ok ∙ c.in-Ok.ensures.ok.1) in
    (c.in-Ok.ensures.ok.0, rw same at c.key_for.ensures)
