use Rattle.age_recipient.proofs.Common.{◌≡◌, take, list_any, bytes_eq, string_cmp, Bytes, IsOrdered, contains_text}
use Rattle.age_recipient.proofs.labels.LabelSet.new.Given as goal

-- the set is in order and has the texts so far
abbrev pub invariant-loop-text : goal.invariant-loop-text
invariant-loop-text l =
    IsOrdered string_cmp l.names
    × ((text : Bytes) → contains_text l.names text ≡ list_any (λ t. bytes_eq text t.now) (take l.text-index l.texts))
