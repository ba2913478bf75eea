use Rattle.age_recipient.proofs.Common.{◌≡◌, map, drop, true, decision, decision_from, lacks_memory}
use Rattle.age_recipient.proofs.choice.first_decided.Given as goal

abbrev pub invariant-loop-identity : goal.invariant-loop-identity
invariant-loop-identity g l =
    let answers = map (λ b. (goal.Identity-dyn g (b.vtable, b.value)).meaning b.value l.stanzas) l.identities in
    let may = map (λ b. (goal.Identity-dyn g (b.vtable, b.value)).may_run_out b.value l.stanzas) l.identities in
    record {
      decided : decision_from l.so_far (drop l.identity-index answers) ≡ decision answers;
      memory : lacks_memory (drop l.identity-index answers) (drop l.identity-index may) ≡ true
          → lacks_memory answers may ≡ true;
    }
