use Rattle.age_commands.proofs.Common.{◌∙◌, ◌≡◌, ◌∷◌, [], ap, rules, labels_of, wraps_of}
use Rattle.age_commands.proofs.SecretLemmas.{encrypting_meant, gathering_meant, made_reads}
use Rattle.age_commands.proofs.encrypt.encrypt.Goals as goal
use Rattle.age_commands.proofs.encrypt.encrypt.OwnLists.{own-1, entry-1-1, at-1-1, same-1-1}

pub returns-clause-encrypts : goal.returns-clause-encrypts
returns-clause-encrypts g c =
    let made = c.in_ok-boxed.ensures in
    let wraps = made_reads own-1 entry-1-1 at-1-1 same-1-1 (λ j y. j.1.wraps y) c.into_dyn_box.ensures.1
    ∙ ap wraps_of made in
    let labels = made_reads own-1 entry-1-1 at-1-1 same-1-1 (λ j y. j.1.the_labels y) c.into_dyn_box.ensures.1
    ∙ ap labels_of made in
    let gathers = gathering_meant c.args.secret c.args.job.now.work c.args.seed.now.salt wraps labels in
    let one : c.as_slice.result.now ≡ c.into_dyn_box.result ∷ [] = search rules in
    encrypting_meant gathers (record {
      encrypts = rw (one, c.limits_of.ensures) at c.encrypt.ensures.encrypts;
      refused = rw (one, c.limits_of.ensures) at c.encrypt.ensures.refused;
    })
