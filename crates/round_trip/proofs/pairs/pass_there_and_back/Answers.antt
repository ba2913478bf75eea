use Rattle.round_trip.proofs.Common.{rules, arith, ◌≤◌}
use Rattle.round_trip.proofs.OwnHeaders.{pass_unrefused}
use Rattle.round_trip.proofs.TripLemmas.{without_refusal}
use Rattle.round_trip.proofs.pairs.pass_there_and_back.Goals as goal

pub returns-clause-lost : goal.returns-clause-lost
returns-clause-lost c =
    let fits = c.in-Ok.ensures.fits in
    let within : c.args.work ≤ c.args.max = fits.within in
    let top : c.args.max ≤ 30 = fits.top in
    without_refusal c.args.limits.now c.args.plain.now c.there_and_back.result
    (pass_unrefused c.args.pass.now c.args.salt _
    c.are_bounds.ensures (search rules) c.has_sixteen_bytes.ensures (omega arith))
    (rw c.in-Ok.ensures.recipient at c.there_and_back.ensures.lost)
