use Rattle.age_commands.proofs.Common.{◌≡◌, ◌∷◌, [], rules}
use Rattle.age_commands.proofs.SecretLemmas.{answers_meant, made_reads}
use Rattle.age_commands.proofs.salvage.salvage.Goals as goal
use Rattle.age_commands.proofs.salvage.salvage.OwnLists.{own-1, entry-1-1, at-1-1, same-1-1}

pub returns-clause-salvages : goal.returns-clause-salvages
returns-clause-salvages g c =
    let same = made_reads own-1 entry-1-1 at-1-1 same-1-1 (λ j y. j.1.meaning y) c.into_dyn_box.ensures.1 in
    let one : c.as_slice.result.now ≡ c.into_dyn_box.result ∷ [] = search rules in
    rw (one, c.limits_of.ensures, answers_meant same c.in_ok-boxed.ensures) at c.salvage.ensures.salvages
