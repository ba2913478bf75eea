use Rattle.age_file.proofs.Common.{ap, inr, ◌++◌, ◌≡◌, rules, Refused}
use Rattle.age_file.proofs.GatheredLemmas.{gathered_more, gathered_refused, refusal}
use Rattle.age_file.proofs.new_header.wrap_all.Goals as goal

pub returns-in-Err-Refused : goal.returns-in-Err-Refused
returns-in-Err-Refused g c =
    let refuses = refusal c.in-Err-Refused.field-0-is c.in-Err-Refused.ensures in
    let is = ap (λ n. Refused c.loop-i.i n) c.in-Err-Refused.code-is in
    inr (_, _, is, search (gathered_refused, c.loop-i-test.true, c.index-recipients-i.is, refuses, c.loop-i.invariant))

pub loop-i-preserved : goal.loop-i-preserved
loop-i-preserved g c =
    let joined : c.append.new.self.items ≡ c.loop-i.all.items ++ c.in-Ok.stanzas.items = search rules in
    search (gathered_more, c.loop-i-test.true, c.index-recipients-i.is, c.in-Ok.ensures, joined, c.loop-i.invariant)
