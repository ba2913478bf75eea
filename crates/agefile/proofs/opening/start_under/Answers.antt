use Rattle.agefile.proofs.Common.{◌∙◌, ap, gives_key, read_made}
use Rattle.agefile.proofs.opening.start_under.Goals as goal
use Rattle.agefile.proofs.opening.start_under.OwnLists.{own-1, entry-1-1, at-1-1, same-1-1}

pub returns : goal.returns
returns c =
    let same = read_made own-1 entry-1-1 at-1-1 same-1-1 _ (λ j y. j.1.meaning y) _ _ _ c.into_dyn_box.ensures.1
    ∙ ap gives_key (c.in_ok-identity.ensures.ok ∙ c.new.ensures) in
    rw same at c.start_for.ensures
