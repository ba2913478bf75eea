use Rattle.age_file.proofs.Common.{◌≡◌, rules, Err, Ok, inr, sym, stream_fault}
use Rattle.age_file.proofs.DecryptLemmas.{headed, reads_file}
use Rattle.age_file.proofs.SalvageLaws.{quiet_pieces}
use Rattle.age_file.proofs.SalvageLemmas.{locked_salvages, payload_salvages, salvage_takes}
use Rattle.age_file.proofs.FrontLemmas.{front_gave}
use Rattle.age_file.proofs.salvaging.salvage.Goals as goal

pub returns-in_err-key-clause-salvages : goal.returns-in_err-key-clause-salvages
returns-in_err-key-clause-salvages g c =
    let is : c.from_residual-in_err-key.result ≡ Err c.in_err-key.field-0.0 = search rules in
    rw is (locked_salvages _ (headed c.args.limits.now c.in_ok-header.ensures.verdict) _ _ c.in_err-key.ensures.key)

pub returns-clause-salvages : goal.returns-clause-salvages
returns-clause-salvages g c =
    payload_salvages _ (headed c.args.limits.now c.in_ok-header.ensures.verdict) (Ok c.in_ok-payload.payload) _ _
    c.in_ok-key.ensures.key c.max_chunks.ensures.value c.in_ok-payload.ensures.salvages

pub returns-in_err-payload-clause-salvages : goal.returns-in_err-payload-clause-salvages
returns-in_err-payload-clause-salvages g c =
    let is : c.from_residual-in_err-payload.result ≡ Err (stream_fault c.in_err-payload.field-0.0) = search rules in
    rw is (payload_salvages _ (headed c.args.limits.now c.in_ok-header.ensures.verdict) (Err c.in_err-payload.field-0.0)
    _ _ c.in_ok-key.ensures.key c.max_chunks.ensures.value c.in_err-payload.ensures.salvages)

pub returns-in_err-payload-clause-took : goal.returns-in_err-payload-clause-took
returns-in_err-payload-clause-took g c =
    let is : c.from_residual-in_err-payload.result ≡ Err (stream_fault c.in_err-payload.field-0.0) = search rules in
    rw is (search (salvage_takes, c.in_ok-header.ensures, c.max_chunks.ensures, c.in_err-payload.ensures))

pub returns-in_err-payload-clause-quiet : goal.returns-in_err-payload-clause-quiet
returns-in_err-payload-clause-quiet g c =
    let is : c.from_residual-in_err-payload.result ≡ Err (stream_fault c.in_err-payload.field-0.0) = search rules in
    rw is (quiet_pieces c.in_err-payload.field-0.0 c.in_err-payload.ensures.quiet)

pub returns-in_err-payload-clause-reads : goal.returns-in_err-payload-clause-reads
returns-in_err-payload-clause-reads g c =
    let is : c.from_residual-in_err-payload.result ≡ Err (stream_fault c.in_err-payload.field-0.0) = search rules in
    rw (is, sym c.in_ok-header.ensures.reads) (search (reads_file, c.in_err-payload.ensures.reads))

pub returns-in_err-key-clause-front : goal.returns-in_err-key-clause-front
returns-in_err-key-clause-front g c =
    let is : c.from_residual-in_err-key.result ≡ Err c.in_err-key.field-0.0 = search rules in
    rw is (inr (inr (inr (front_gave c.args.limits.now _ _ c.in_ok-header.ensures.verdict))))
