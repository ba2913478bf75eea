use Rattle.age_args.proofs.Common.{◌∙◌, found_of, one_text-rows}
use Rattle.age_args.proofs.RowLemmas.{flag_read}
use Rattle.age_args.proofs.words.is_set.Goals as goal

pub returns : goal.returns
returns c =
    let e = one_text-rows (found_of c.args.matches.now) c.args.id.now in
    c.unwrap_or.ensures ∙ flag_read _ (λ n. c.get_one.ensures.none (e ∙ n)) (λ t s. c.get_one.ensures.value t (e ∙ s))
