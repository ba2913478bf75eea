use Rattle.age_file.proofs.GatheredLemmas.{collects}
use Rattle.age_file.proofs.new_header.labels_of_all.Goals as goal

pub loop-recipient-init : goal.loop-recipient-init
loop-recipient-init g c = rw c.new-all.ensures.items (λ rest h. h)

pub loop-recipient-preserved : goal.loop-recipient-preserved
loop-recipient-preserved g c =
    let low = c.loop-recipient-test.true in
    let items = c.in_ok-push.ensures.items in
    search (collects, low, c.recipient-item.is, c.in_ok-labels_of.ensures, items, c.loop-recipient.invariant)
