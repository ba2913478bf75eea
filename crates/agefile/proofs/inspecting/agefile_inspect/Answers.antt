use Rattle.agefile.proofs.Common.{Err, ap, inl, inr, length}
use Rattle.agefile.proofs.HeaderLemmas.{inspected, refused_as}
use Rattle.agefile.proofs.inspecting.agefile_inspect.Goals as goal

pub returns-in-Ok : goal.returns-in-Ok
returns-in-Ok c = record {
  front = λ b near. inspected b c.in-Ok.header (c.in-Ok.ensures b near) c.of_len.ensures c.text_len.ensures.1
      c.text_len.ensures.2 (ap length c.stanzas.ensures.value) c.mac.ensures;
}

pub returns-in-Err : goal.returns-in-Err
returns-in-Err c = record {
  front =
      λ b near.
      let e = c.report_fault.ensures in
      elim (refused_as b c.in-Err.fault (c.in-Err.ensures b near) e.reported e.returned) [
        | inl up ↦ inl up
        | inr (reason, found, is) ↦ inr (Err reason, found, is)
      ];
}
