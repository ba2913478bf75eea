use Rattle.age_header.proofs.Common.{◌≡◌, length, body_text}
use Rattle.age_header.proofs.DeviceLemmas.{Done}
use Rattle.age_header.proofs.writer.write_body.Given as goal

abbrev pub invariant-loop-rest : goal.invariant-loop-rest
invariant-loop-rest g l = record {
  written : Done (g.W.Sink.taken l.fn.out) (g.W.Sink.taken l.out) (body_text l.body) (body_text l.rest);
  count : g.W.Sink.failed l.out ≡ g.W.Sink.failed l.fn.out;
}

abbrev pub decreases-loop-rest : goal.decreases-loop-rest
decreases-loop-rest g l = length l.rest
