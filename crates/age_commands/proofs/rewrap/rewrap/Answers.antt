use Rattle.age_commands.proofs.Common.{◌≡◌, ◌∷◌, [], ◌∙◌, ap, rules, labels_of, wraps_of, Err, OutOfMemory}
use Rattle.age_commands.proofs.SecretLemmas.{answers_meant, gathering_meant, made_reads, unread}
use Rattle.age_commands.proofs.rewrap.rewrap.Goals as goal
use Rattle.age_commands.proofs.rewrap.rewrap.OwnLists.{own-1, entry-1-1, at-1-1, same-1-1, own-2, entry-2-1, at-2-1, same-2-1}

pub returns-in_err-identities-clause-rewraps : goal.returns-in_err-identities-clause-rewraps
returns-in_err-identities-clause-rewraps g c =
    let is : c.from_residual-in_err-identities.result ≡ Err OutOfMemory = search rules in
    rw is (unread _ (λ b. tt))

pub returns-clause-rewraps : goal.returns-clause-rewraps
returns-clause-rewraps g c =
    let same = made_reads own-1 entry-1-1 at-1-1 same-1-1 (λ j y. j.1.meaning y) c.into_dyn_box.ensures.1 in
    let wraps = made_reads own-2 entry-2-1 at-2-1 same-2-1 (λ j y. j.1.wraps y) c.into_dyn_box-in_ok-boxed-2.ensures.1
    ∙ ap wraps_of c.in_ok-boxed-2.ensures in
    let labels = made_reads own-2 entry-2-1 at-2-1 same-2-1 (λ j y. j.1.the_labels y)
    c.into_dyn_box-in_ok-boxed-2.ensures.1 ∙ ap labels_of c.in_ok-boxed-2.ensures in
    let gathers = gathering_meant c.args.new c.args.job.now.work c.args.salt wraps labels in
    let one : c.as_slice.result.now ≡ c.into_dyn_box.result ∷ [] = search rules in
    let other : c.as_slice-2.result.now ≡ c.into_dyn_box-in_ok-boxed-2.result ∷ [] = search rules in
    rw (one, other, c.limits_of.ensures, answers_meant same c.in_ok-boxed.ensures, gathers) at c.rewrap.ensures.rewraps
