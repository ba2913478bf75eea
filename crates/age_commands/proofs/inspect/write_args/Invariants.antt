use Rattle.age_commands.proofs.Common.{map, take, Appends, spaced_arguments}
use Rattle.std.specs.String.{string_bytes}
use Rattle.age_commands.proofs.inspect.write_args.Given as goal

abbrev pub invariant-loop-arg : goal.invariant-loop-arg
invariant-loop-arg g l =
    Appends (g.W.Write.contents l.fn.out) (g.W.Write.contents l.out)
    (spaced_arguments (map string_bytes (take l.arg-index l.args)))
