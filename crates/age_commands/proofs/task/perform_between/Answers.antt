use Rattle.age_commands.proofs.TaskLemmas.{known_told}
use Rattle.age_commands.proofs.VerifiedLemmas.{ranges_unseen}
use Rattle.age_stream.specs.Salvage.{losses_by}
use Rattle.age_commands.proofs.task.perform_between.Goals as goal

pub returns-in-Encrypt-clause-performs : goal.returns-in-Encrypt-clause-performs
returns-in-Encrypt-clause-performs g c =
    let done = c.encrypt.ensures.encrypts in
    rw c.in-Encrypt.is (c.encrypt.result, c.without_counts.ensures, known_told c.new.ensures.bytes done.encrypts, done.refused)

pub returns-in_ok-source-in-Decrypt-clause-performs : goal.returns-in_ok-source-in-Decrypt-clause-performs
returns-in_ok-source-in-Decrypt-clause-performs g c =
    let told = known_told c.in_ok-source-in-Decrypt.ensures.ok c.decrypt.ensures.decrypts in
    rw c.in-Decrypt.is (c.decrypt.result, c.without_counts-in-Decrypt.ensures, told)

pub returns-in_ok-source-in-Rewrap-clause-performs : goal.returns-in_ok-source-in-Rewrap-clause-performs
returns-in_ok-source-in-Rewrap-clause-performs g c =
    rw c.in-Rewrap.is (known_told c.in_ok-source-in-Rewrap.ensures.ok c.rewrap.ensures.rewraps)

pub returns-in_ok-source-in-Inspect-clause-performs : goal.returns-in_ok-source-in-Inspect-clause-performs
returns-in_ok-source-in-Inspect-clause-performs g c =
    rw c.in-Inspect.is (known_told c.in_ok-source-in-Inspect.ensures.ok c.inspect.ensures.inspects)

pub returns-in_ok-source-in-Range-clause-performs : goal.returns-in_ok-source-in-Range-clause-performs
returns-in_ok-source-in-Range-clause-performs g c =
    rw c.in-Range.is (ranges_unseen c.args.job.now c.in-Range.secret (g.R.Read.remaining c.args.input.now)
    (losses_by g.L.Losses.lost c.args.report.now c.args.report.now) c.range_of.ensures.any)
