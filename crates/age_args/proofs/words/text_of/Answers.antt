use Rattle.age_args.proofs.Common.{ap, sym, ◌∙◌, Some, option_map, Bor, Option, Text, found_of, first_value-rows}
use Rattle.age_args.proofs.words.text_of.Goals as goal

abbrev texts : Option (Bor Text) → Option Text
texts = option_map (λ s. s.now)

pub returns-in_ok-from_str-in-Some : goal.returns-in_ok-from_str-in-Some
returns-in_ok-from_str-in-Some c =
    ap Some c.in_ok-from_str-in-Some.ensures.ok ∙ (sym (ap texts c.in-Some.is) ∙ (c.get_str.ensures
    ∙ first_value-rows (found_of c.args.matches.now) c.args.id.now))

pub returns-in-None : goal.returns-in-None
returns-in-None c =
    sym (ap texts c.in-None.is) ∙ (c.get_str.ensures ∙ first_value-rows (found_of c.args.matches.now) c.args.id.now)
