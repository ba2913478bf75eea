use Rattle.agefile.proofs.Common.{Err, inl, inr, refl}
use Rattle.agefile.proofs.HeaderLemmas.{list_found, refused_as}
use Rattle.agefile.proofs.listing.agefile_stanzas.Goals as goal

pub returns-in-Ok : goal.returns-in-Ok
returns-in-Ok c = record {
  front = λ b near. list_found b c.in-Ok.header (c.in-Ok.ensures b near) (rw c.stanzas.ensures.value at c.list.ensures);
}

pub returns-in-Err : goal.returns-in-Err
returns-in-Err c = record {
  front =
      λ b near.
      let e = c.report_fault.ensures in
      elim (refused_as b c.in-Err.fault (c.in-Err.ensures b near) e.reported e.returned) [
        | inl up ↦ inl (up, refl)
        | inr (reason, found, is) ↦ inr (Err reason, found, (is, refl))
      ];
}
