use Rattle.age_commands.proofs.Common.{◌≡◌, Err, rules, ◌≢◌, Took, WritesPart, move_by}
use Rattle.age_commands.proofs.InspectLemmas.{missed, shown_of}
use Rattle.age_commands.specs.declared.inspect.Check.TheVariants.{Bad}
use Rattle.age_commands.proofs.inspect.inspect.Goals as goal

pub returns-in_err-header-clause-inspects : goal.returns-in_err-header-clause-inspects
returns-in_err-header-clause-inspects g c =
    let is : c.from_residual.result ≡ Err c.in_err-header.field-0.0 = search rules in
    rw is (missed c.args.job.now.raw c.args.file_key.now _ c.limits_of.ensures c.in_err-header.ensures.verdict)

pub returns-in_default-clause-inspects : goal.returns-in_default-clause-inspects
returns-in_default-clause-inspects g c =
    let sink = move_by g.W.Sink.taken c.args.out.now c.write_all.new.out in
    let shown : c.as_slice.result.now ≡ c.in_ok-shown.shown.items = search rules in
    shown_of c.args.job.now.raw c.args.file_key.now (λ checked text. WritesPart sink text) c.in_ok-shown.shown.items
    c.limits_of.ensures c.in_ok-header.ensures.verdict c.in_ok-check.ensures c.in_ok-shown.ensures
    (rw shown at c.in_default.ensures.text)

pub returns-in-Bad-clause-inspects : goal.returns-in-Bad-clause-inspects
returns-in-Bad-clause-inspects g c =
    let sink = move_by g.W.Sink.taken c.args.out.now c.write_all.new.out in
    let shown : c.as_slice.result.now ≡ c.in_ok-shown.shown.items = search rules in
    shown_of c.args.job.now.raw c.args.file_key.now (λ checked text. (checked ≡ Bad) × Took sink text)
    c.in_ok-shown.shown.items c.limits_of.ensures c.in_ok-header.ensures.verdict
    c.in_ok-check.ensures c.in_ok-shown.ensures (c.in-Bad.is, rw shown at c.in-Ok.ensures.text)

pub returns-clause-inspects : goal.returns-clause-inspects
returns-clause-inspects g c =
    let sink = move_by g.W.Sink.taken c.args.out.now c.write_all.new.out in
    let shown : c.as_slice.result.now ≡ c.in_ok-shown.shown.items = search rules in
    shown_of c.args.job.now.raw c.args.file_key.now (λ checked text. (checked ≢ Bad) × Took sink text)
    c.in_ok-shown.shown.items c.limits_of.ensures c.in_ok-header.ensures.verdict
    c.in_ok-check.ensures c.in_ok-shown.ensures (search rules, rw shown at c.in-Ok.ensures.text)
