use Rattle.agefile.proofs.Common.{◌∙◌, ap, read_made}
use Rattle.age_recipient.specs.KeyedHolders.{key_unwraps}
use Rattle.agefile.proofs.unlocking.key_for_key.Goals as goal
use Rattle.agefile.proofs.unlocking.key_for_key.OwnLists.{own-1, entry-1-1, at-1-1, same-1-1}

pub returns : goal.returns
returns c =
    let same = read_made own-1 entry-1-1 at-1-1 same-1-1 _ (λ j y. j.1.meaning y) _ _ _ c.into_dyn_box.ensures.1
    ∙ ap key_unwraps (c.in_ok-identity.ensures.ok ∙ c.new.ensures) in
    rw same at c.key_for.ensures
