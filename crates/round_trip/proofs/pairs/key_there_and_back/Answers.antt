use Rattle.round_trip.proofs.Common.{rules}
use Rattle.round_trip.proofs.OwnHeaders.{key_unrefused}
use Rattle.round_trip.proofs.TripLemmas.{without_refusal}
use Rattle.round_trip.proofs.pairs.key_there_and_back.Goals as goal

pub returns-clause-lost : goal.returns-clause-lost
returns-clause-lost c =
    without_refusal c.args.limits.now c.args.plain.now c.there_and_back.result
    (key_unrefused c.args.key c.args.salt _ c.are_bounds.ensures (search rules) c.has_sixteen_bytes.ensures)
    (rw c.new-pair.ensures.recipient at c.there_and_back.ensures.lost)
