use Rattle.round_trip.proofs.Common.{◌≡◌, take, drop, FoldsTo, zip, Makes}
use Rattle.round_trip.proofs.ranges.make_calls.Given as goal

-- the calls so far were made, and the calls after them are unchanged
abbrev pub invariant-loop-call : goal.invariant-loop-call
invariant-loop-call g l =
    let first = l.fn.reader.dev.now in
    let s = l.fn.reader.chunks in
    record {
      same_reference : l.reader.dev.ghost_name ≡ l.fn.reader.dev.ghost_name;
      stay : g.D.ReadAt.bytes l.reader.dev.now ≡ g.D.ReadAt.bytes first;
      same : l.reader.chunks.layout ≡ s.layout;
      rest : drop l.call-index l.calls ≡ drop l.call-index l.fn.calls;
      calls : FoldsTo (Makes g.D.ReadAt.bytes g.D.ReadAt.given g.D.ReadAt.failed g.D.ReadAt.gave first s) (first, s)
          (zip (take l.call-index l.fn.calls) (take l.call-index l.calls)) (l.reader.dev.now, l.reader.chunks);
    }
