use Rattle.age_file.proofs.Common.{◌≡◌, [], rules, Ok, Err, inr, gave_none, of_any, stream_fault}
use Rattle.age_file.proofs.EncryptLemmas.{encrypts_begun, encrypts_payload, filled, late_faults, read_late, sealed_ended, sealed_on, takes_begun, takes_payload}
use Rattle.age_file.proofs.encrypting.encrypt.Goals as goal

pub returns-in_err-front-clause-encrypts : goal.returns-in_err-front-clause-encrypts
returns-in_err-front-clause-encrypts g c = of_any ([], gave_none) (λ plain. search rules)

pub returns-in_default-write_all-clause-encrypts : goal.returns-in_default-write_all-clause-encrypts
returns-in_default-write_all-clause-encrypts g c =
    let all = filled c.new-sealer.ensures c.max_chunks.ensures.value c.in-Ok.ensures.fills in
    encrypts_begun c.args.fresh.now c.in_ok-front.ensures.ok (search rules) _ (_, all.1)
    c.in_default-write_all.ensures.text

pub returns-in_default-write_all-clause-took : goal.returns-in_default-write_all-clause-took
returns-in_default-write_all-clause-took g c =
    let all = filled c.new-sealer.ensures c.max_chunks.ensures.value c.in-Ok.ensures.fills in
    takes_begun c.args.fresh.now c.in_ok-front.ensures.ok (search rules) _ c.in_default-write_all.ensures.text all

pub returns-then-is_open-clause-encrypts : goal.returns-then-is_open-clause-encrypts
returns-then-is_open-clause-encrypts g c =
    let all = rw c.if-is_open.true at (filled c.new-sealer.ensures c.max_chunks.ensures.value c.in-Ok.ensures.fills) in
    encrypts_payload c.args.fresh.now c.in_ok-front.ensures.ok (search rules) (Ok c.in_ok-seal_from.field-0)
    (g.W.Sink.taken c.args.out.now) (g.W.Sink.taken c.write_all.new.out) _ (search rules)
    c.in-Ok-write_all.ensures.text (sealed_on g.W.Sink.taken _ _ _ c.seal_from.new.self.0 _
    (Ok c.in_ok-seal_from.field-0) (search rules) c.over.ensures.unchanged c.over.ensures.sealer all
    c.in_ok-seal_from.ensures.seals)

pub returns-in_err-seal_from-clause-encrypts : goal.returns-in_err-seal_from-clause-encrypts
returns-in_err-seal_from-clause-encrypts g c =
    let is : c.from_residual-in_err-seal_from.result ≡ Err (stream_fault c.in_err-seal_from.field-0.0) = search rules in
    let all = rw c.if-is_open.true at (filled c.new-sealer.ensures c.max_chunks.ensures.value c.in-Ok.ensures.fills) in
    rw is (encrypts_payload c.args.fresh.now c.in_ok-front.ensures.ok (search rules) (Err c.in_err-seal_from.field-0.0)
    (g.W.Sink.taken c.args.out.now) (g.W.Sink.taken c.write_all.new.out) _ (search rules)
    c.in-Ok-write_all.ensures.text (sealed_on g.W.Sink.taken _ _ _ c.seal_from.new.self.0 _
    (Err c.in_err-seal_from.field-0.0) (search rules) c.over.ensures.unchanged c.over.ensures.sealer all
    c.in_err-seal_from.ensures.seals))

pub returns-in_err-seal_from-clause-refused : goal.returns-in_err-seal_from-clause-refused
returns-in_err-seal_from-clause-refused g c =
    let all = rw c.if-is_open.true at (filled c.new-sealer.ensures c.max_chunks.ensures.value c.in-Ok.ensures.fills) in
    search (rules, late_faults _ _ _ _ c.over.ensures.sealer all c.in_err-seal_from.ensures.seals)

pub returns-in_err-seal_from-clause-quiet : goal.returns-in_err-seal_from-clause-quiet
returns-in_err-seal_from-clause-quiet g c =
    let all = rw c.if-is_open.true at (filled c.new-sealer.ensures c.max_chunks.ensures.value c.in-Ok.ensures.fills) in
    search (rules, late_faults _ _ _ _ c.over.ensures.sealer all c.in_err-seal_from.ensures.seals)

pub returns-in_err-seal_from-clause-spared : goal.returns-in_err-seal_from-clause-spared
returns-in_err-seal_from-clause-spared g c = λ read.
    let all = rw c.if-is_open.true at (filled c.new-sealer.ensures c.max_chunks.ensures.value c.in-Ok.ensures.fills) in
    inr (read_late _ (g.W.Sink.taken c.over.result.out.now) (g.W.Sink.taken c.seal_from.new.self.0)
    c.in_err-seal_from.field-0.0 c.over.ensures.sealer all c.in_err-seal_from.ensures.seals)

pub returns-in_err-seal_from-clause-took : goal.returns-in_err-seal_from-clause-took
returns-in_err-seal_from-clause-took g c =
    let is : c.from_residual-in_err-seal_from.result ≡ Err (stream_fault c.in_err-seal_from.field-0.0) = search rules in
    let all = rw c.if-is_open.true at (filled c.new-sealer.ensures c.max_chunks.ensures.value c.in-Ok.ensures.fills) in
    rw is (takes_payload c.args.fresh.now c.in_ok-front.ensures.ok (search rules) c.in_err-seal_from.field-0.0
    (g.W.Sink.taken c.args.out.now) (g.W.Sink.taken c.write_all.new.out) _ (search rules)
    c.in-Ok-write_all.ensures.text (sealed_on g.W.Sink.taken _ _ _ c.seal_from.new.self.0 _
    (Err c.in_err-seal_from.field-0.0) (search rules) c.over.ensures.unchanged c.over.ensures.sealer all
    c.in_err-seal_from.ensures.seals))

pub returns-clause-encrypts : goal.returns-clause-encrypts
returns-clause-encrypts g c =
    let all = rw c.if-is_open.false at (filled c.new-sealer.ensures c.max_chunks.ensures.value c.in-Ok.ensures.fills) in
    encrypts_payload c.args.fresh.now c.in_ok-front.ensures.ok (search rules) (Ok c.in_ok-finish.field-0)
    (g.W.Sink.taken c.args.out.now) (g.W.Sink.taken c.write_all.new.out) _ (search rules)
    c.in-Ok-write_all.ensures.text (sealed_ended _ _ (Ok c.in_ok-finish.field-0)
    c.max_chunks.ensures.range.chunks_low all c.in_ok-finish.ensures.text)

pub returns-in_err-finish-clause-encrypts : goal.returns-in_err-finish-clause-encrypts
returns-in_err-finish-clause-encrypts g c =
    let is : c.from_residual-in_err-finish.result ≡ Err (stream_fault c.in_err-finish.field-0.0) = search rules in
    let all = rw c.if-is_open.false at (filled c.new-sealer.ensures c.max_chunks.ensures.value c.in-Ok.ensures.fills) in
    rw is (encrypts_payload c.args.fresh.now c.in_ok-front.ensures.ok (search rules) (Err c.in_err-finish.field-0.0)
    (g.W.Sink.taken c.args.out.now) (g.W.Sink.taken c.write_all.new.out) _ (search rules)
    c.in-Ok-write_all.ensures.text (sealed_ended _ _ (Err c.in_err-finish.field-0.0)
    c.max_chunks.ensures.range.chunks_low all c.in_err-finish.ensures.text))

pub returns-in_err-finish-clause-took : goal.returns-in_err-finish-clause-took
returns-in_err-finish-clause-took g c =
    let is : c.from_residual-in_err-finish.result ≡ Err (stream_fault c.in_err-finish.field-0.0) = search rules in
    let all = rw c.if-is_open.false at (filled c.new-sealer.ensures c.max_chunks.ensures.value c.in-Ok.ensures.fills) in
    rw is (takes_payload c.args.fresh.now c.in_ok-front.ensures.ok (search rules) c.in_err-finish.field-0.0
    (g.W.Sink.taken c.args.out.now) (g.W.Sink.taken c.write_all.new.out) _ (search rules)
    c.in-Ok-write_all.ensures.text (sealed_ended _ _ (Err c.in_err-finish.field-0.0)
    c.max_chunks.ensures.range.chunks_low all c.in_err-finish.ensures.text))
