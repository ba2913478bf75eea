-- `so_far` and the remaining keys decide as all keys do.
use Rattle.age_commands.proofs.Common.{◌≡◌, map, drop, decision_from, key_unwraps, keys_unwrap}
use Rattle.age_commands.proofs.identity.unwrap_by_keys.Given as goal

abbrev pub invariant-loop-key : goal.invariant-loop-key
invariant-loop-key l =
    decision_from l.so_far (drop l.key-index (map (λ key. key_unwraps key l.stanzas) l.keys))
    ≡ keys_unwrap l.keys l.stanzas
