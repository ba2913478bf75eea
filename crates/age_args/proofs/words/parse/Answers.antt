use Rattle.age_args.proofs.Common.{ap, sym, subst, ◌∙◌, texts, found_of, rows_of, IsTaken, name_of, Command}
use Rattle.age_args.proofs.TakenLemmas.{one_command}
use Rattle.age_args.proofs.WordsLemmas.{made, named, refusal}
use Rattle.age_args.proofs.words.parse.Goals as goal

pub command_named-requires : goal.command_named-requires
command_named-requires c =
    let n = named c.in_ok-whole_command.field-0 c.in_ok-matches.matches c.in_ok-whole_command.ensures
    c.in_ok-matches.ensures.matches c.in_ok-matches.ensures.kinds c.in-Some.ensures.name c.in-Some.ensures.rows in
    (n.taken.0, n.taken.1)

pub job_of-requires : goal.job_of-requires
job_of-requires c =
    let n = named c.in_ok-whole_command.field-0 c.in_ok-matches.matches c.in_ok-whole_command.ensures
    c.in_ok-matches.ensures.matches c.in_ok-matches.ensures.kinds c.in-Some.ensures.name c.in-Some.ensures.rows in
    subst (λ (x : Command). IsTaken x (rows_of (found_of c.in-Some.matches.now)))
    (one_command (sym n.taken.1 ∙ c.command_named.ensures)) n.taken.2

pub returns-in_err-matches-clause-reads : goal.returns-in_err-matches-clause-reads
returns-in_err-matches-clause-reads c =
    refusal (texts c.args.words.now) c.in_ok-whole_command.field-0 c.in_err-matches.field-0.0
    c.from_residual-in_err-matches.result
    c.in_ok-whole_command.ensures c.from_residual-in_err-matches.ensures.1 c.in_err-matches.ensures.kinds

pub returns-clause-reads : goal.returns-clause-reads
returns-clause-reads c =
    let n = named c.in_ok-whole_command.field-0 c.in_ok-matches.matches c.in_ok-whole_command.ensures
    c.in_ok-matches.ensures.matches c.in_ok-matches.ensures.kinds c.in-Some.ensures.name c.in-Some.ensures.rows in
    made n (c.command_named.ensures ∙ ap name_of (sym c.in_ok-job_of.ensures.command)) c.in_ok-job_of.ensures.job
