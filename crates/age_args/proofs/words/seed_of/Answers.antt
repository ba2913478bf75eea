use Rattle.age_args.proofs.Common.{◌∙◌, codes, string_bytes, found_of, first_value-rows}
use Rattle.age_args.proofs.ValueLemmas.{IfOk-equal_to, mapped_or}
use Rattle.age_args.proofs.words.seed_of.Goals as goal

pub returns : goal.returns
returns c =
    IfOk-equal_to c.from_str.result string_bytes c.from_str.ensures.ok
    (mapped_or (λ s. s.now) c.get_str.result _ c.unwrap_or.ensures
    (c.get_str.ensures ∙ first_value-rows (found_of c.args.matches.now) (codes "seed")))
