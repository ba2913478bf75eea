use Rattle.age_commands.proofs.InspectLemmas.{rows_more}
use Rattle.age_commands.proofs.inspect.write_rows.Goals as goal

pub loop-index-preserved : goal.loop-index-preserved
loop-index-preserved g c =
    let row = c.in_ok-write_row.ensures in
    search (rows_more, c.loop-index-test.true, c.index-stanzas-index.is, c.loop-index.invariant, row)
