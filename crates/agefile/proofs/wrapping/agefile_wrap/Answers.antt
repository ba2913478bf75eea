use Rattle.agefile.proofs.Common.{◌≡◌, ◌∙◌, ap, arith, inl, inr, map, words}
use Rattle.std.proofs.lemmas.Iterator.Consumers.{map_from_collect}
use Rattle.std.proofs.lemmas.Iterator.Splits.{YieldsList-from_str_split}
use Rattle.agefile.proofs.WrapLemmas.{own_given, own_refused}
use Rattle.agefile.proofs.wrapping.agefile_wrap.Goals as goal

pub returns-in_default : goal.returns-in_default
returns-in_default c = inr (inl (λ are. c.in_default.ensures.cases.0 are.0, c.give_up.ensures))

pub returns-in-Ok-new : goal.returns-in-Ok-new
returns-in-Ok-new c =
    let split : map (λ x. x.now) c.in-Ok-collect.words.items ≡ words c.in-Ok.text.now =
    rw c.in-Ok-collect.is at (map_from_collect c.collect.result c.collect.ensures.ran
    (YieldsList-from_str_split 32 c.in-Ok.text.now (omega arith) c.split.ensures.text c.split.ensures.has_more
    c.split.ensures.pattern)) in
    own_given c.in-Ok.ensures.cases.1
    ((rw c.as_slice.ensures.value at c.in-Ok-new.ensures.ok.0) ∙ split ∙ ap words c.in-Ok.ensures.cases.0)
    c.in-Ok-new.ensures.ok.1
    c.give_one.ensures

pub returns : goal.returns
returns c =
    let split : map (λ x. x.now) c.in-Ok-collect.words.items ≡ words c.in-Ok.text.now =
    rw c.in-Ok-collect.is at (map_from_collect c.collect.result c.collect.ensures.ran
    (YieldsList-from_str_split 32 c.in-Ok.text.now (omega arith) c.split.ensures.text c.split.ensures.has_more
    c.split.ensures.pattern)) in
    own_refused c.in-Err-new.error (rw (c.as_slice.ensures.value, split, c.in-Ok.ensures.cases.0) at
    c.in-Err-new.ensures.err) (rw c.refusal_code.ensures at c.give_up-in-Err-new.ensures)
