use Rattle.age_commands.proofs.Common.{◌≤◌, ◌<◌, ◌≡◌, ◌+◌, ◌-◌, ◌^◌, length, StaysGiven, range_len, chunk_size, WritesVerified, move_by}
use Rattle.age_commands.proofs.range.write_range.Given as goal

abbrev pub invariant-loop-left : goal.invariant-loop-left
invariant-loop-left g l =
    let s = l.fn.reader.chunks in
    record {
      end : l.at + l.left ≡ l.fn.at + l.fn.len;
      begin : l.fn.at ≤ l.at;
      within : l.at + l.left < 2 ^ 64;
      piece : length l.piece ≡ chunk_size;
      same_reference : l.reader.dev.ghost_name ≡ l.fn.reader.dev.ghost_name;
      same : l.reader.chunks.layout ≡ s.layout;
      some : l.at - l.fn.at ≤ range_len s l.fn.at l.fn.len;
      given : StaysGiven (g.D.ReadAt.gave l.fn.reader.dev.now) (g.D.ReadAt.gave l.reader.dev.now);
      verified : WritesVerified (g.D.ReadAt.gave l.reader.dev.now) s.layout l.fn.at (l.at - l.fn.at)
          (move_by g.W.Sink.taken l.fn.out l.out);
      writes : g.W.Sink.failed l.out ≡ g.W.Sink.failed l.fn.out;
    }

abbrev pub decreases-loop-left : goal.decreases-loop-left
decreases-loop-left g l = l.left
