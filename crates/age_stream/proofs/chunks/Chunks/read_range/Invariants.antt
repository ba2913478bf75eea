use Rattle.age_stream.proofs.Common.{length, ◌-◌, ◌≡◌, ◌+◌, ◌*◌, ◌/◌, ◌%◌, ◌≤◌, ◌<◌, ◌⊎◌, drop, slice_index, ℕ, Some, StaysGiven, IsSound, IsVerifiedByte, OpenedAtLeast, first_to_open, sealed_span, chunk_size}
use Rattle.age_stream.proofs.chunks.Chunks.read_range.Given as goal

abbrev pub invariant-loop-done : goal.invariant-loop-done
invariant-loop-done g l =
    let s = l.fn.self in
    record {
      stay : g.D.ReadAt.bytes l.dev ≡ g.D.ReadAt.bytes l.fn.dev;
      kept : StaysGiven (g.D.ReadAt.gave l.fn.dev) (g.D.ReadAt.gave l.dev);
      layout : l.self.layout ≡ s.layout;
      len : length l.buf ≡ length l.fn.buf;
      within : l.done ≤ l.end;
      skip : l.skip < chunk_size;
      pos : l.done < l.end → l.at + l.done ≡ chunk_size * l.i + l.skip;
      below : l.at + l.done ≤ chunk_size * l.i + l.skip;
      rest : drop l.done l.buf ≡ drop l.done l.fn.buf;
      sound : IsSound (g.D.ReadAt.gave l.dev) (g.D.ReadAt.found l.dev) l.self;
      bytes : (k : ℕ) → k < l.done → IsVerifiedByte (g.D.ReadAt.gave l.dev) s.layout (l.at + k) (slice_index l.buf k);
      counts : OpenedAtLeast s l.self.opened (l.i - first_to_open s.index l.at);
      rises : s.opened ≤ l.self.opened;
      opened : l.self.opened ≤ s.opened + (l.i - first_to_open s.index l.at);
      given : g.D.ReadAt.given l.dev
          ≤ g.D.ReadAt.given l.fn.dev + sealed_span s.layout (first_to_open s.index l.at) l.i;
      failed : g.D.ReadAt.failed l.dev ≡ g.D.ReadAt.failed l.fn.dev;
      stage : ((l.done ≡ 0) × (l.i ≡ l.at / chunk_size) × (l.skip ≡ l.at % chunk_size)
          × (l.self.index ≡ s.index) × (l.self.opened ≡ s.opened)
          × (g.D.ReadAt.given l.dev ≡ g.D.ReadAt.given l.fn.dev)
          × (l.self ≡ s) × (l.dev ≡ l.fn.dev))
          ⊎ ((0 < l.done) × (l.skip ≡ 0) × (l.at / chunk_size < l.i)
          × (chunk_size * l.i < l.at + l.done + chunk_size)
          × (l.self.index ≡ Some (l.i - 1)));
    }

abbrev pub decreases-loop-done : goal.decreases-loop-done
decreases-loop-done g l = l.end - l.done
