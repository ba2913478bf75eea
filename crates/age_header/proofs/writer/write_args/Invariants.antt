use Rattle.age_header.proofs.Common.{◌≡◌, ◌∷◌, [], ◌++◌, map, drop, string_bytes, argument_line}
use Rattle.age_header.proofs.ArgumentsLemmas.{spaced}
use Rattle.age_header.proofs.DeviceLemmas.{Done}
use Rattle.age_header.proofs.writer.write_args.Given as goal

abbrev pub invariant-loop-arg : goal.invariant-loop-arg
invariant-loop-arg g l = record {
  written : Done (g.W.Sink.taken l.fn.out) (g.W.Sink.taken l.out) (argument_line (map string_bytes l.args))
      (spaced (map string_bytes (drop l.arg-index l.args)) ++ 10 ∷ []);
  count : g.W.Sink.failed l.out ≡ g.W.Sink.failed l.fn.out;
}
