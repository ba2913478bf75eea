-- The stanzas of the keys before this one.
use Rattle.age_commands.proofs.Common.{◌≡◌, map, take, keyed_stanza}
use Rattle.age_commands.proofs.recipient.wrap_for_keys.Given as goal

abbrev pub invariant-loop-key : goal.invariant-loop-key
invariant-loop-key l = l.stanzas.items ≡ map (λ key. keyed_stanza key l.salt l.file_key) (take l.key-index l.keys)
