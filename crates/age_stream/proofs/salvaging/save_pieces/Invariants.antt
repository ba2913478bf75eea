use Rattle.age_stream.proofs.Common.{◌≡◌, ◌≤◌, ◌-◌, length, take, drop, seen_by, chunk_buf_size, sealed_chunk_size}
use Rattle.age_stream.proofs.SalvageLemmas.{Salvaging}
use Rattle.age_stream.proofs.salvaging.save_pieces.Given as goal

abbrev pub invariant-loop-done : goal.invariant-loop-done
invariant-loop-done g l = record {
  size : length l.bytes ≡ chunk_buf_size;
  ahead : l.ahead ≤ 1;
  within : l.done.chunks ≤ l.max;
  saved : Salvaging l.key l.done (take l.ahead (drop sealed_chunk_size l.bytes))
      (seen_by g.S.Source.to_come g.S.Source.gave l.fn.source) (seen_by g.S.Source.to_come g.S.Source.gave l.source)
      (g.W.Sink.taken l.fn.out) (g.W.Sink.taken l.out) (g.L.Losses.lost l.fn.losses) (g.L.Losses.lost l.losses);
  silent : l.done.lost ≡ 0 → l.losses ≡ l.fn.losses;
  reads : g.S.Source.failed l.source ≡ g.S.Source.failed l.fn.source;
  writes : g.W.Sink.failed l.out ≡ g.W.Sink.failed l.fn.out;
}

abbrev pub decreases-loop-done : goal.decreases-loop-done
decreases-loop-done g l = l.max - l.done.chunks
