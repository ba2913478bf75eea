use Rattle.age_file.proofs.Common.{◌≡◌, ◌-◌, ◌^◌, length, seen_by, buffer_size}
use Rattle.age_file.proofs.CopiesLemmas.{Copied}
use Rattle.age_file.proofs.copying.copy_pieces.Given as goal

abbrev pub invariant-loop-copied : goal.invariant-loop-copied
invariant-loop-copied g l = record {
  size : length l.buf ≡ buffer_size;
  copied : Copied (seen_by g.S.Source.to_come g.S.Source.gave l.fn.input)
      (seen_by g.S.Source.to_come g.S.Source.gave l.input) (g.W.Sink.taken l.fn.out)
      (g.W.Sink.taken l.out) l.copied;
  reads : g.S.Source.failed l.input ≡ g.S.Source.failed l.fn.input;
  writes : g.W.Sink.failed l.out ≡ g.W.Sink.failed l.fn.out;
}

abbrev pub decreases-loop-copied : goal.decreases-loop-copied
decreases-loop-copied g l = 2 ^ 89 - l.copied
