-- `so_far` and the remaining passphrases decide as all passphrases do.
use Rattle.age_commands.proofs.Common.{◌≡◌, map, drop, decision_from, pass_unwraps, passes_unwrap}
use Rattle.age_commands.proofs.identity.unwrap_by_passphrases.Given as goal

abbrev pub invariant-loop-identity : goal.invariant-loop-identity
invariant-loop-identity l =
    decision_from l.so_far (drop l.identity-index (map (λ guess. pass_unwraps guess l.stanzas) l.identities))
    ≡ passes_unwrap l.identities l.stanzas
