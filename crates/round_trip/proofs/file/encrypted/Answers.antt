use Rattle.round_trip.proofs.Common.{◌≡◌, [], ◌∷◌, Some, Err, ap, rules}
use Rattle.round_trip.proofs.TripLemmas.{file_of_one, unwritten_of_one}
use Rattle.round_trip.proofs.file.encrypted.Goals as goal

pub returns-clause-file : goal.returns-clause-file
returns-clause-file g c =
    let list : c.as_slice.result.now ≡ c.args.recipient ∷ [] = search rules in
    let come : c.new-source.result.rest.now ≡ c.args.plain.now = cc (c.new-source.ensures) in
    let empty : c.new-file.result.out.items ≡ [] = search rules in
    let out : c.encrypt.new.out.out.items ≡ c.into_vec.result.items = cc (c.into_vec.ensures) in
    file_of_one c.args.limits.now c.args.fresh.now
    ((goal.Recipient-dyn g (c.args.recipient.vtable, c.args.recipient.value)).the_labels c.args.recipient.value
    ∷ []) c.args.plain.now c.into_vec.result.items c.in_ok-encrypt.field-0 (ap Some come)
    (rw (list, empty, out) at c.in_ok-encrypt.ensures.encrypts)

pub returns-in_err-encrypt-clause-lost : goal.returns-in_err-encrypt-clause-lost
returns-in_err-encrypt-clause-lost g c =
    let is : c.from_residual-in_err-encrypt.result ≡ Err c.in_err-encrypt.field-0.0 = search rules in
    let list : c.as_slice.result.now ≡ c.args.recipient ∷ [] = search rules in
    let come : c.new-source.result.rest.now ≡ c.args.plain.now = cc (c.new-source.ensures) in
    rw is (unwritten_of_one c.args.limits.now c.args.fresh.now
    (λ r. (goal.Recipient-dyn g (r.vtable, r.value)).wraps r.value c.args.fresh.now.file_key)
    (λ r. (goal.Recipient-dyn g (r.vtable, r.value)).the_labels r.value)
    (Some c.new-file.result.out.items) (Some c.encrypt.new.out.out.items) list
    c.in_err-encrypt.ensures.reads c.in_err-encrypt.ensures.refused (ap Some come)
    c.in_err-encrypt.ensures.encrypts)
