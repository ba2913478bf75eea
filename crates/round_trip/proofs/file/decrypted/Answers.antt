use Rattle.round_trip.proofs.Common.{◌≡◌, [], ◌∷◌, Some, Err, ap, rules}
use Rattle.round_trip.proofs.TripLemmas.{text_of_whole, lost_of_one}
use Rattle.round_trip.proofs.file.decrypted.Goals as goal

pub returns-clause-text : goal.returns-clause-text
returns-clause-text g c plain is =
    let list : c.as_slice.result.now ≡ c.args.identity ∷ [] = search rules in
    let come : c.new-source.result.rest.now ≡ c.args.file.now = cc (c.new-source.ensures) in
    let empty : c.new-text.result.out.items ≡ [] = search rules in
    let out : c.decrypt.new.out.out.items ≡ c.into_vec.result.items = cc (c.into_vec.ensures) in
    text_of_whole c.args.limits.now c.args.file.now plain c.into_vec.result.items c.in_ok-decrypt.field-0
    (c.ok_is_age_file.ensures.one c.args.limits.now _ c.args.file.now)
    is (ap Some come) (rw (list, empty, out) at c.in_ok-decrypt.ensures.decrypts)

pub returns-in_err-decrypt-clause-lost : goal.returns-in_err-decrypt-clause-lost
returns-in_err-decrypt-clause-lost g c =
    let is : c.from_residual-in_err-decrypt.result ≡ Err c.in_err-decrypt.field-0.0 = search rules in
    let list : c.as_slice.result.now ≡ c.args.identity ∷ [] = search rules in
    let come : c.new-source.result.rest.now ≡ c.args.file.now = cc (c.new-source.ensures) in
    rw is (λ plain whole. lost_of_one (λ i. (goal.Identity-dyn g (i.vtable, i.value)).meaning i.value)
    (Some c.new-text.result.out.items) (Some c.decrypt.new.out.out.items) list
    (c.ok_is_age_file.ensures.one c.args.limits.now _ c.args.file.now)
    whole c.in_err-decrypt.ensures.reads (ap Some come) c.in_err-decrypt.ensures.decrypts)
