use Rattle.age_cli.proofs.Common.{RunsOn, move_by}
use Rattle.age_cli.proofs.ProgramLemmas.{begins}
use Rattle.age_cli.proofs.program.run_job.Goals as goal

pub returns-then-matches-clause-begins : goal.returns-then-matches-clause-begins
returns-then-matches-clause-begins g c = λ one.
    let sink = move_by g.W.Write.contents c.args.out.now c.perform.new.out in
    begins (RunsOn g.F.File.Read.remaining g.F.File.Write.contents c.args.job.now
    (g.R.Read.remaining c.args.input.now) sink) c.args.job.now _ sink c.in-Err.failure c.in-Err.ensures.completes

pub returns-clause-begins : goal.returns-clause-begins
returns-clause-begins g c = λ one.
    let sink = move_by g.W.Write.contents c.args.out.now c.perform-2.new.out in
    begins (RunsOn g.F.File.Read.remaining g.F.File.Write.contents c.args.job.now
    (g.R.Read.remaining c.args.input.now) sink) c.args.job.now _ sink c.in-Err-perform.failure
    c.in-Err-perform.ensures.completes

pub returns-clause-told : goal.returns-clause-told
returns-clause-told g c = λ one other. (c.in-Err-perform.failure, c.in-Err-perform.ensures.completes, c.tell.ensures)
