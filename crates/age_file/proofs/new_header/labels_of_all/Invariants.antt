use Rattle.age_file.proofs.GatheredLemmas.{Collected}
use Rattle.age_file.proofs.new_header.labels_of_all.Given as goal

abbrev pub invariant-loop-recipient : goal.invariant-loop-recipient
invariant-loop-recipient g l =
    Collected (λ r. (goal.Recipient-dyn g (r.vtable, r.value)).the_labels r.value) l.recipients l.recipient-index
    l.all.items
