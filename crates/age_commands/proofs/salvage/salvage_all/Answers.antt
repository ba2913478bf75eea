use Rattle.age_commands.proofs.SalvageLemmas.{quiet_whole, salvages_from, silent_whole, writes_whole}
use Rattle.age_commands.proofs.salvage.salvage_all.Goals as goal

pub returns-clause-salvages : goal.returns-clause-salvages
returns-clause-salvages g c =
    rw c.requires.failed at (salvages_from c.args.job.now.input c.salvage-done.new.input.reached _ c.salvage-done.result
    c.requires.start (rw c.is_some.ensures at c.in-Ok.ensures.to_come) c.in-Ok.ensures.gave (λ past h. h)
    c.salvage-done.ensures.salvages c.judged.ensures.lost c.is_read.ensures c.judged.ensures.result)

pub returns-clause-silent : goal.returns-clause-silent
returns-clause-silent g c =
    let done = c.salvage-done in
    silent_whole c.args.report.now done.new.losses _ c.is_read.result done.result c.judged.ensures.result
    done.ensures.silent c.judged.ensures.silent

pub returns-clause-quiet : goal.returns-clause-quiet
returns-clause-quiet g c =
    let done = c.salvage-done in
    quiet_whole c.args.out.now done.new.out c.is_read.result done.result c.judged.ensures.result done.ensures.quiet

pub returns-clause-writes : goal.returns-clause-writes
returns-clause-writes g c =
    let done = c.salvage-done in
    writes_whole _ _ c.is_read.result done.result c.judged.ensures.result done.ensures.writes
