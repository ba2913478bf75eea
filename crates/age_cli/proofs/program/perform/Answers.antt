use Rattle.age_cli.proofs.Common.{◌≡◌, ◌∙◌, ap, inl, refl, rules, Err, move_by}
use Rattle.age_cli.proofs.ProgramLemmas.{completes, stays_known}
use Rattle.age_cli.specs.declared.failure.Failure.TheVariants.{Job as OfJob}
use Rattle.age_job.proofs.RefusalLemmas.{of_file}
use Rattle.age_job.specs.declared.file_names.Role.TheVariants as roles
use Rattle.age_cli.proofs.program.perform.Goals as goal

pub returns-in_ok-file-in-Some-clause-completes : goal.returns-in_ok-file-in-Some-clause-completes
returns-in_ok-file-in-Some-clause-completes g c =
    let sink = move_by g.W.Write.contents c.args.out.now c.perform_on.new.out in
    completes g.F.File.Read.remaining g.F.File.Write.contents c.args.work.now.job.now c.in_ok-task.task
    (g.R.Read.remaining c.args.input.now) (g.F.File.Read.remaining c.new-input.result.reader) _ _ sink
    c.perform_on.result (λ same. refl) (search rules)
    (rw c.in-Some.is (
      c.in_ok-file-in-Some.file,
      ap g.F.File.Read.remaining c.new-input.ensures.reader,
    ))
    c.perform_on.ensures.performs

pub returns-in_err-file-in-Some-clause-completes : goal.returns-in_err-file-in-Some-clause-completes
returns-in_err-file-in-Some-clause-completes g c =
    let is : c.from_residual-in_err-file-in-Some.result ≡ Err (OfJob c.in_err-file-in-Some.field-0.0) = search rules in
    rw is (
      stays_known refl,
      inl (
        of_file c.args.work.now.job.now roles.Input c.as_str.result.now c.in_err-file-in-Some.field-0.0.fault
            (rw c.in-Some.is c.as_str.ensures.value) c.in_err-file-in-Some.ensures,
        refl,
      ),
    )

pub returns-in-None-clause-completes : goal.returns-in-None-clause-completes
returns-in-None-clause-completes g c =
    let sink = move_by g.W.Write.contents c.args.out.now c.perform_on-done.new.out in
    let is : c.new-watched.result.reader.0.now ≡ c.args.input.now =
    ap (λ pipe. pipe.0.now) c.new-watched.ensures.reader in
    completes g.F.File.Read.remaining g.F.File.Write.contents c.args.work.now.job.now c.in_ok-task.task
    (g.R.Read.remaining c.args.input.now) (g.R.Read.remaining c.new-watched.result.reader.0.now)
    (c.perform_on-done.new.input ≡ c.new-watched.result) _ sink c.perform_on-done.result
    (λ same.
    let name = ap (λ watched. watched.reader.0.ghost_name) same
    ∙ ap (λ pipe. pipe.0.ghost_name) c.new-watched.ensures.reader in
    let now = ap (λ watched. watched.reader.0.now) same ∙ is in
    search rules) (search rules)
    (rw c.in-None.is (ap g.R.Read.remaining is)) c.perform_on-done.ensures.performs
