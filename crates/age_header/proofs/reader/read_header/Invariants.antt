use Rattle.age_header.proofs.Common.{◌≡◌, seen_by}
use Rattle.age_header.proofs.VerdictPathLemmas.{Reached}
use Rattle.age_header.proofs.reader.read_header.Given as goal

abbrev pub invariant-lines : goal.invariant-lines
invariant-lines g l = record {
  count : g.S.Source.failed l.input ≡ g.S.Source.failed l.fn.input;
  path : Reached (seen_by g.S.Source.to_come g.S.Source.gave l.fn.input)
      (seen_by g.S.Source.to_come g.S.Source.gave l.input) l.max l.room l.lines l.progress;
}

abbrev pub decreases-lines : goal.decreases-lines
decreases-lines g l = l.room
