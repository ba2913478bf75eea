use Rattle.age_commands.proofs.Common.{take, Appends, rows}
use Rattle.age_commands.proofs.inspect.write_rows.Given as goal

abbrev pub invariant-loop-index : goal.invariant-loop-index
invariant-loop-index g l =
    Appends (g.W.Write.contents l.fn.out) (g.W.Write.contents l.out) (rows 0 (take l.index l.stanzas))
