use Rattle.agefile.proofs.Common.{true, PartSeals, Seals, all_of}
use Rattle.agefile.proofs.GroupLemmas.{SealsOne, groups_come, part_seals, sealed_are, sealed_to_end, seals_next, seals_one}
use Rattle.agefile.proofs.laws.parts_seal.Goals as goal

pub returns : goal.returns
returns c = record {
  so_far =
      λ old new groups out run.
      let (chunks, next) = groups_come SealsOne Seals PartSeals seals_one part_seals old new groups out run in
      (sealed_are old.key old.number (all_of groups) out chunks, next);
  whole =
      λ old mid new groups out text room after report run len step.
      let (chunks, (key, number)) = groups_come SealsOne Seals PartSeals seals_one part_seals old mid groups out run in
      let last = rw key at ((seals_next mid new text room after true report len step).0) in
      sealed_to_end old.key old.number mid.number (all_of groups) out text after number last chunks;
}
