use Rattle.age_stream.proofs.Common.{◌≡◌, ◌≤◌, ◌<◌, ◌-◌, length, take, Bytes, Gave, flow_by, move_by, chunk_size, chunk_buf_size, Fed}
use Rattle.age_stream.proofs.sealing.feed.Given as goal

abbrev pub invariant-loop-n : goal.invariant-loop-n
invariant-loop-n g l = record {
  size : length l.bytes ≡ chunk_buf_size;
  held : l.held ≤ chunk_size;
  within : l.index < l.max;
  reads : g.S.Source.failed l.plain ≡ g.S.Source.failed l.fn.plain;
  writes : g.W.Sink.failed l.out ≡ g.W.Sink.failed l.fn.out;
  fed : (text : Bytes)
      × Gave (flow_by g.S.Source.to_come g.S.Source.gave l.fn.plain l.plain) text
      × Fed l.key l.fn.index l.index (take l.len l.fn.bytes) text (take l.held l.bytes)
      (move_by g.W.Sink.taken l.fn.out l.out);
}

abbrev pub decreases-loop-n : goal.decreases-loop-n
decreases-loop-n g l = l.max - l.index
