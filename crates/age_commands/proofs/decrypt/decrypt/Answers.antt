use Rattle.age_commands.proofs.Common.{◌≡◌, ◌∷◌, [], rules}
use Rattle.age_commands.proofs.SecretLemmas.{answers_meant, made_reads}
use Rattle.age_commands.proofs.decrypt.decrypt.Goals as goal
use Rattle.age_commands.proofs.decrypt.decrypt.OwnLists.{own-1, entry-1-1, at-1-1, same-1-1}

pub returns-clause-decrypts : goal.returns-clause-decrypts
returns-clause-decrypts g c =
    let same = made_reads own-1 entry-1-1 at-1-1 same-1-1 (λ j y. j.1.meaning y) c.into_dyn_box.ensures.1 in
    let one : c.as_slice.result.now ≡ c.into_dyn_box.result ∷ [] = search rules in
    rw (one, c.limits_of.ensures, answers_meant same c.in_ok-boxed.ensures) at c.decrypt.ensures.decrypts
