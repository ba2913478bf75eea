use Rattle.age_stream.proofs.Common.{rules, ◌≡◌, [], length, refl, Err, Appends-nil, gave_none, of_any}
use Rattle.age_stream.proofs.SalvageLemmas.{nonce_ends, nonce_salvages, payload_ends, payload_salvages, reports_none}
use Rattle.age_stream.proofs.salvaging.salvage_payload.Goals as goal

pub returns-in_default-clause-salvages : goal.returns-in_default-clause-salvages
returns-in_default-clause-salvages g c = of_any ([], gave_none) (λ text. (Appends-nil _, reports_none _))

pub returns-clause-quiet : goal.returns-clause-quiet
returns-clause-quiet g c = search (rules, c.save_pieces.ensures.saves.holds [] (λ end. refl))

pub returns-in_err-nonce-clause-salvages : goal.returns-in_err-nonce-clause-salvages
returns-in_err-nonce-clause-salvages g c =
    let is : c.from_residual.result ≡ Err c.in_err-nonce.field-0.0 = search rules in
    rw is (search (nonce_salvages, c.in_err-nonce.ensures.nonce))

pub returns-clause-salvages : goal.returns-clause-salvages
returns-clause-salvages g c =
    let size : length c.in_ok-nonce.nonce ≡ 16 = search rules in
    search (payload_salvages, c.in_ok-nonce.ensures.nonce, size, c.payload_key-key.ensures, c.save_pieces.ensures.saves)

pub returns-in_err-nonce-clause-took : goal.returns-in_err-nonce-clause-took
returns-in_err-nonce-clause-took g c =
    let is : c.from_residual.result ≡ Err c.in_err-nonce.field-0.0 = search rules in
    rw is (search (nonce_ends, c.in_err-nonce.ensures.nonce))

pub returns-clause-took : goal.returns-clause-took
returns-clause-took g c =
    let size : length c.in_ok-nonce.nonce ≡ 16 = search rules in
    search (payload_ends, c.in_ok-nonce.ensures.nonce, size, c.save_pieces.ensures.ends)
