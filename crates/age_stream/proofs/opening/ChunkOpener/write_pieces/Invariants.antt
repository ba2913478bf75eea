use Rattle.age_stream.proofs.Common.{◌≡◌, ◌-◌, seen_by}
use Rattle.age_stream.proofs.WritesAllLemmas.{Opened}
use Rattle.age_stream.proofs.opening.ChunkOpener.write_pieces.Given as goal

abbrev pub invariant-loop-done : goal.invariant-loop-done
invariant-loop-done g l = record {
  opened : Opened l.fn.self l.opener l.done.bytes
      (seen_by g.S.Source.to_come g.S.Source.gave l.fn.source) (seen_by g.S.Source.to_come g.S.Source.gave l.source)
      (g.W.Sink.taken l.fn.out) (g.W.Sink.taken l.out);
  count : l.done.chunks ≡ l.opener.index - l.fn.self.index;
  reads : g.S.Source.failed l.source ≡ g.S.Source.failed l.fn.source;
  writes : g.W.Sink.failed l.out ≡ g.W.Sink.failed l.fn.out;
}

abbrev pub decreases-loop-done : goal.decreases-loop-done
decreases-loop-done g l = l.opener.max_chunks - l.opener.index
