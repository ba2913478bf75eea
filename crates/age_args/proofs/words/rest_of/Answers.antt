use Rattle.age_args.proofs.Common.{ap, sym, ◌∙◌, List, Bor, map, drop, nil_from_length, string_bytes, Text, found_of, raw_values-rows}
use Rattle.age_args.proofs.RowLemmas.{nows}
use Rattle.age_args.proofs.ValueLemmas.{IfOk-equal_to, mapped_or}
use Rattle.age_args.proofs.words.rest_of.Goals as goal

abbrev rest : List (Bor Text) → List Text
rest xs = drop 1 (nows xs)

pub returns-in-Some : goal.returns-in-Some
returns-in-Some c =
    IfOk-equal_to c.copied.result (λ copies. map string_bytes copies.items) c.copied.ensures
    (ap rest (sym c.in-Some.ensures.cases.0)
    ∙ ap (drop 1) (mapped_or (λ s. nows s.now) c.get_strs.result _ c.unwrap_or.ensures
    (c.get_strs.ensures ∙ raw_values-rows (found_of c.args.matches.now) c.args.id.now)))

pub returns-in-None : goal.returns-in-None
returns-in-None c =
    ap (map string_bytes) c.new.ensures.items
    ∙ ap rest (sym (nil_from_length c.unwrap_or.result.now c.in-None.ensures.cases))
    ∙ ap (drop 1) (mapped_or (λ s. nows s.now) c.get_strs.result _ c.unwrap_or.ensures
    (c.get_strs.ensures ∙ raw_values-rows (found_of c.args.matches.now) c.args.id.now))
