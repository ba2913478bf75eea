use Rattle.age_commands.proofs.Common.{◌≡◌, ◌∙◌, ◌∷◌, [], rules, Err, subst, sym, move_by, OutOfMemory, WritesAny}
use Rattle.age_commands.proofs.SecretLemmas.{answers_meant, made_reads}
use Rattle.age_commands.proofs.VerifiedLemmas as verified
use Rattle.age_commands.proofs.range.range_of.Goals as goal
use Rattle.age_commands.proofs.range.range_of.OwnLists.{own-1, entry-1-1, at-1-1, same-1-1}

pub returns-in-Ok-clause-any : goal.returns-in-Ok-clause-any
returns-in-Ok-clause-any g c =
    let meant = made_reads own-1 entry-1-1 at-1-1 same-1-1 (λ j y. j.1.meaning y) c.into_dyn_box.ensures.1 in
    let same = c.into_inner-source.ensures.same_reference ∙ c.write_range-written.ensures.same_reference
    ∙ c.in-Ok.ensures.same_reference in
    let one : c.as_slice.result.now ≡ c.into_dyn_box.result ∷ [] = search rules in
    verified.ranged c.in-Ok.reader.dev.now (answers_meant meant c.in_ok-boxed.ensures)
    (rw (one, c.limits_of.ensures) at c.in-Ok.ensures.ranges.1)
    (subst (λ d. WritesAny (g.D.ReadAt.gave d) c.in-Ok.reader.chunks c.args.job.now.at c.args.job.now.len
    (move_by g.W.Sink.taken c.args.out.now c.write_range-written.new.out) c.write_range-written.result)
    (sym c.into_inner-source.ensures.unchanged ∙ (search rules))
    c.write_range-written.ensures.any)

pub returns-in_err-identities-clause-any : goal.returns-in_err-identities-clause-any
returns-in_err-identities-clause-any g c =
    let is : c.from_residual-in_err-identities.result ≡ Err OutOfMemory = search rules in
    rw is (verified.unopened c.args.job.now.at c.args.job.now.len (search rules))

pub returns-in_err-piece-clause-any : goal.returns-in_err-piece-clause-any
returns-in_err-piece-clause-any g c =
    let is : c.from_residual-in_err-piece.result ≡ Err OutOfMemory = search rules in
    rw is (verified.unopened c.args.job.now.at c.args.job.now.len (search rules))

pub returns-clause-any : goal.returns-clause-any
returns-clause-any g c =
    rw c.fault.ensures.fault (verified.unopened c.args.job.now.at c.args.job.now.len c.in-Err.ensures.refuses.named)

pub returns-clause-writes : goal.returns-clause-writes
returns-clause-writes g c =
    rw c.fault.ensures.fault (search (verified.opens_unwritten, c.in-Err.ensures.refuses.named))

pub returns-in-Ok-clause-quiet : goal.returns-in-Ok-clause-quiet
returns-in-Ok-clause-quiet g c =
    search (verified.quiet_part, c.write_range-written.ensures.any)
