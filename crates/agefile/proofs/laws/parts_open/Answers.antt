use Rattle.agefile.proofs.Common.{[], refl, true, append-nil, take-append_seam, OpensPiece, PartOpens, all_of}
use Rattle.agefile.proofs.GroupLemmas.{OpensOne, goes_on, groups_come, opens_next, opens_one, part_opens}
use Rattle.agefile.proofs.VerdictLemmas.{by_payload}
use Rattle.agefile.proofs.laws.parts_open.Goals as goal

pub returns : goal.returns
returns c = record {
  so_far =
      λ answers b p new report groups text next more v opens run cut h.
      let (chunks, (key, number)) =
      groups_come OpensOne OpensPiece PartOpens opens_one part_opens p new groups text run in
      let (plain, fault) = goes_on p.key p.number new.number (all_of groups) text next more number chunks in
      rw ((by_payload answers b p report v opens h).1, cut, plain, take-append_seam) refl;
  whole =
      λ answers b p mid new report last_report groups text last after v opens run step cut h.
      let (chunks, (key, number)) =
      groups_come OpensOne OpensPiece PartOpens opens_one part_opens p mid groups text run in
      let (plain, fault) = goes_on p.key p.number mid.number (all_of groups) text last [] number chunks in
      let ends = rw key at ((opens_next mid new last after true last_report step).0) in
      rw ((by_payload answers b p report v opens h).1, cut, plain, fault, ends, append-nil) refl;
}
