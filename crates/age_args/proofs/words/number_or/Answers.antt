use Rattle.age_args.proofs.Common.{◌∙◌, ParsesUnsigned, ExplainsUnsignedError, HasUnsignedDigitsIfOk, found_of, one_text-rows}
use Rattle.age_args.proofs.RowLemmas.{number_read}
use Rattle.age_args.proofs.words.number_or.Goals as goal

pub returns : goal.returns
returns c =
    let e = one_text-rows (found_of c.args.matches.now) c.args.id.now in
    c.unwrap_or.ensures
    ∙ number_read (λ bs r. ParsesUnsigned 64 10 bs r × ExplainsUnsignedError 10 bs r × HasUnsignedDigitsIfOk bs r)
    c.args.default (λ n. c.get_one.ensures.none (e ∙ n)) (λ t s. c.get_one.ensures.value t (e ∙ s)) (λ u x g. g.0)
    c.requires
