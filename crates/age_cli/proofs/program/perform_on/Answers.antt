use Rattle.age_cli.proofs.Common.{◌≡◌, inl, inr, refl, rules, None, Err, move_by}
use Rattle.age_cli.proofs.ProgramLemmas.{performs, stays_known}
use Rattle.age_cli.specs.declared.failure.Failure.TheVariants.{Job as OfJob}
use Rattle.age_cli.proofs.program.perform_on.Goals as goal

pub returns-in_default-finish-clause-performs : goal.returns-in_default-finish-clause-performs
returns-in_default-finish-clause-performs g c =
    let has = g.F.File.Write.contents in
    let old = c.in_ok-output.output.file in
    let new = c.perform_to-done.new.out.file in
    performs has c.args.work.now.job.now c.args.task (g.R.Read.remaining c.args.input.now)
    (c.perform_to-done.new.input ≡ c.args.input.now) (move_by g.W.Write.contents c.args.out.now c.args.out.now)
    (move_by has old new) c.perform_to-done.result (rw c.in-Some.is ((old, new), refl))
    c.perform_to-done.ensures.performs

pub returns-clause-performs : goal.returns-clause-performs
returns-clause-performs g c = (stays_known refl, inr (rw c.in-Some.is refl, c.in-Err.ensures))

pub returns-in_default-clause-performs : goal.returns-in_default-clause-performs
returns-in_default-clause-performs g c =
    let none : c.args.work.now.job.now.output ≡ None = search rules in
    let sink = move_by g.W.Write.contents c.args.out.now c.perform_to.new.out in
    performs g.F.File.Write.contents c.args.work.now.job.now c.args.task
    (g.R.Read.remaining c.args.input.now) (c.perform_to.new.input ≡ c.args.input.now) sink sink
    c.perform_to.result (rw none refl) c.perform_to.ensures.performs

pub returns-in_err-refuse_standard_output-clause-performs : goal.returns-in_err-refuse_standard_output-clause-performs
returns-in_err-refuse_standard_output-clause-performs g c =
    let none : c.args.work.now.job.now.output ≡ None = search rules in
    let is : c.from_residual.result
    ≡ Err (OfJob c.in_err-refuse_standard_output.field-0.0) = search rules in
    rw is (stays_known refl, inl (search rules, refl))
