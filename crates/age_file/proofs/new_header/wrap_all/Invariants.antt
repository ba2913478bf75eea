use Rattle.age_file.proofs.Common.{◌≡◌, map, drop, with_stanzas, gathering_from}
use Rattle.age_file.proofs.new_header.wrap_all.Given as goal

-- the stanzas so far, followed by the result of the remaining recipients, are the result of all
abbrev pub invariant-loop-i : goal.invariant-loop-i
invariant-loop-i g l =
    with_stanzas l.all.items (gathering_from l.i
    (drop l.i (map (λ r. (goal.Recipient-dyn g (r.vtable, r.value)).wraps r.value l.key) l.recipients)))
    ≡ gathering_from 0 (map (λ r. (goal.Recipient-dyn g (r.vtable, r.value)).wraps r.value l.key) l.recipients)
