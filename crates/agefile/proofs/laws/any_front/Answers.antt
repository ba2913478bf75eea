use Rattle.std.proofs.Common.{take}
use Rattle.agefile.proofs.FrontLemmas.{gave, longer, short_fronts, shorter}
use Rattle.agefile.proofs.UnlockLemmas.{found_start, opened_start}
use Rattle.agefile.proofs.laws.any_front.Goals as goal

pub returns : goal.returns
returns c = record {
  front =
      λ answers n b p q report r code first second other.
      let (s, is, at) = opened_start answers (take n b) p report first in
      let (start, there, gives) = found_start answers b q r code second other in
      gave answers b at (longer answers n b s is) there gives;
  holds =
      λ answers n b p q report r code first within second other.
      let (s, is, at) = opened_start answers b p report first in
      let (start, there, gives) = found_start answers (take n b) q r code second other in
      gave answers (take n b) at (shorter answers n b s (rw at.1 at within) is) there gives;
  short = short_fronts;
}
