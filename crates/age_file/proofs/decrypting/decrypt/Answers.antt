use Rattle.age_file.proofs.Common.{◌≡◌, inl, inr, rules, Ok, Err, seen_by, stream_fault}
use Rattle.age_file.proofs.DecryptLemmas.{found_key, headed, inspect_decrypts, locked_decrypts, missed_decrypts, payload_ends, payload_takes, written_decrypts}
use Rattle.age_file.proofs.FrontLemmas.{ended_late, front_gave, started_front}
use Rattle.age_file.proofs.decrypting.decrypt.Goals as goal

pub returns-in_err-header-clause-decrypts : goal.returns-in_err-header-clause-decrypts
returns-in_err-header-clause-decrypts g c =
    let is : c.from_residual.result ≡ Err c.in_err-header.field-0.0 = search rules in
    rw is (search (inspect_decrypts, c.in_err-header.ensures.verdict))

pub returns-in_err-key-clause-decrypts : goal.returns-in_err-key-clause-decrypts
returns-in_err-key-clause-decrypts g c =
    let is : c.from_residual-in_err-key.result ≡ Err c.in_err-key.field-0.0 = search rules in
    rw is (locked_decrypts _ (headed c.args.limits.now c.in_ok-header.ensures.verdict) _ c.in_err-key.ensures.key)

pub returns-in-Err-clause-decrypts : goal.returns-in-Err-clause-decrypts
returns-in-Err-clause-decrypts g c =
    rw (c.from.ensures, c.fault.ensures.fault)
    (missed_decrypts g.S.Source.to_come g.S.Source.gave g.S.Source.failed _ (g.W.Sink.taken c.args.out.now)
    c.in-Err.refused.fault (headed c.args.limits.now c.in_ok-header.ensures.verdict)
    (found_key c.in_ok-key.ensures.key) (search rules))

pub returns-clause-decrypts : goal.returns-clause-decrypts
returns-clause-decrypts g c =
    let starts = rw c.max_chunks.ensures.value at c.in-Ok.ensures.starts.0 in
    written_decrypts _ (headed c.args.limits.now c.in_ok-header.ensures.verdict) (Ok c.in_ok-copy_to.field-0) _ _ _
    (found_key c.in_ok-key.ensures.key) starts (search rules)

pub returns-in_err-copy_to-clause-decrypts : goal.returns-in_err-copy_to-clause-decrypts
returns-in_err-copy_to-clause-decrypts g c =
    let is : c.from_residual-in_err-copy_to.result ≡ Err (stream_fault c.in_err-copy_to.field-0.0) = search rules in
    let starts = rw c.max_chunks.ensures.value at c.in-Ok.ensures.starts.0 in
    rw is (written_decrypts _ (headed c.args.limits.now c.in_ok-header.ensures.verdict)
    (Err c.in_err-copy_to.field-0.0) _ _ _ (found_key c.in_ok-key.ensures.key) starts (search rules))

pub returns-in_err-copy_to-clause-took : goal.returns-in_err-copy_to-clause-took
returns-in_err-copy_to-clause-took g c =
    let is : c.from_residual-in_err-copy_to.result ≡ Err (stream_fault c.in_err-copy_to.field-0.0) = search rules in
    let starts = rw c.max_chunks.ensures.value at c.in-Ok.ensures.starts.0 in
    rw is (payload_takes (seen_by g.S.Source.to_come g.S.Source.gave c.inspect.new.input) c.in_err-copy_to.field-0.0
    c.in_ok-header.ensures.verdict (payload_ends c.in_ok-key.key starts c.in-Ok.ensures.starts.1 (search rules)))

pub returns-in_err-key-clause-front : goal.returns-in_err-key-clause-front
returns-in_err-key-clause-front g c =
    let is : c.from_residual-in_err-key.result ≡ Err c.in_err-key.field-0.0 = search rules in
    rw is (inr (inr (front_gave c.args.limits.now _ _ c.in_ok-header.ensures.verdict)))

pub returns-in-Err-clause-front : goal.returns-in-Err-clause-front
returns-in-Err-clause-front g c =
    rw (c.from.ensures, c.fault.ensures.fault)
    (started_front c.args.limits.now g.S.Source.to_come g.S.Source.gave g.S.Source.failed _ c.in_ok-key.key
    c.max_chunks.result c.in-Err.refused.fault c.in_ok-header.ensures.verdict (search rules))

pub returns-in_err-copy_to-clause-front : goal.returns-in_err-copy_to-clause-front
returns-in_err-copy_to-clause-front g c =
    let is : c.from_residual-in_err-copy_to.result ≡ Err (stream_fault c.in_err-copy_to.field-0.0) = search rules in
    let starts = rw c.max_chunks.ensures.value at c.in-Ok.ensures.starts.0 in
    rw is (inl (ended_late c.in_err-copy_to.field-0.0
    (payload_ends c.in_ok-key.key starts c.in-Ok.ensures.starts.1 c.in_err-copy_to.ensures.ends)))
