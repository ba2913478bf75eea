use Rattle.age_stream.proofs.Common.{length, ◌-◌, ◌≡◌, ◌+◌, ◌≤◌, take, StaysGiven, GaveAt}
use Rattle.age_stream.proofs.loading.read_full.Given as goal

abbrev pub invariant-loop-got : goal.invariant-loop-got
invariant-loop-got g l = record {
  stay : g.D.ReadAt.bytes l.dev ≡ g.D.ReadAt.bytes l.fn.dev;
  len : length l.buf ≡ length l.fn.buf;
  within : l.got ≤ l.end;
  found : g.D.ReadAt.found l.dev ≡ g.D.ReadAt.found l.fn.dev;
  kept : StaysGiven (g.D.ReadAt.gave l.fn.dev) (g.D.ReadAt.gave l.dev);
  read : GaveAt (g.D.ReadAt.gave l.dev) l.at (take l.got l.buf);
  given : g.D.ReadAt.given l.dev ≤ g.D.ReadAt.given l.fn.dev + l.got;
  failed : g.D.ReadAt.failed l.dev ≡ g.D.ReadAt.failed l.fn.dev;
}

abbrev pub decreases-loop-got : goal.decreases-loop-got
decreases-loop-got g l = l.end - l.got
