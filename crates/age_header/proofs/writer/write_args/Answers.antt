use Rattle.age_header.proofs.Common.{◌∙◌, ◌+◌, [], ◌∷◌, ◌++◌, map, drop, refl, codes, drop_all, string_bytes, Bytes, argument_line, err_from_is_err_and, rules}
use Rattle.age_header.proofs.ArgumentsLemmas.{spaced}
use Rattle.age_header.proofs.TextLemmas.{args_step}
use Rattle.age_header.proofs.DeviceLemmas.{done_start, done_more, done_part, writes_last}
use Rattle.age_header.proofs.writer.write_args.Goals as goal

pub returns-in_err-write_all-clause-text : goal.returns-in_err-write_all-clause-text
returns-in_err-write_all-clause-text g c =
    let text : Bytes = argument_line (map string_bytes c.args.args.now) in
    rw (err_from_is_err_and c.from_residual.result c.from_residual.ensures.1).1
    (done_part (g.W.Sink.taken c.write_all.new.out) (codes "->") (spaced (map string_bytes c.args.args.now) ++ 10 ∷ [])
    (done_start text) refl c.in_err-write_all.ensures.text)

pub returns-in_err-write_all-2-clause-text : goal.returns-in_err-write_all-2-clause-text
returns-in_err-write_all-2-clause-text g c =
    let rest : Bytes = spaced (map string_bytes (drop (c.loop-arg.arg-index + 1) c.args.args.now)) ++ 10 ∷ [] in
    let step = args_step string_bytes c.args.args.now c.loop-arg.arg-index c.loop-arg-test.true c.arg-item.is in
    rw (err_from_is_err_and c.from_residual-in_err-write_all-2.result c.from_residual-in_err-write_all-2.ensures.1).1
    (done_part (g.W.Sink.taken c.write_all-in-loop-arg.new.out) (32 ∷ []) (string_bytes c.arg-item.result ++ rest)
    c.loop-arg.invariant.written step c.in_err-write_all-2.ensures.text)

pub returns-in_err-write_all-3-clause-text : goal.returns-in_err-write_all-3-clause-text
returns-in_err-write_all-3-clause-text g c =
    let rest : Bytes = spaced (map string_bytes (drop (c.loop-arg.arg-index + 1) c.args.args.now)) ++ 10 ∷ [] in
    let step = args_step string_bytes c.args.args.now c.loop-arg.arg-index c.loop-arg-test.true c.arg-item.is in
    let one = done_more (32 ∷ []) c.loop-arg.invariant.written step c.in_ok-write_all-2.ensures.text in
    let failed = rw c.as_bytes.ensures.value at c.in_err-write_all-3.ensures.text in
    rw (err_from_is_err_and c.from_residual-in_err-write_all-3.result c.from_residual-in_err-write_all-3.ensures.1).1
    (done_part (g.W.Sink.taken c.write_all-in-loop-arg-2.new.out) (string_bytes c.arg-item.result)
    rest one refl failed)

pub loop-arg-preserved : goal.loop-arg-preserved
loop-arg-preserved g c =
    let step = args_step string_bytes c.args.args.now c.loop-arg.arg-index c.loop-arg-test.true c.arg-item.is in
    let one = done_more (32 ∷ []) c.loop-arg.invariant.written step c.in_ok-write_all-2.ensures.text in
    let wrote = rw c.as_bytes.ensures.value at c.in_ok-write_all-3.ensures.text in
    record {
      written = done_more (string_bytes c.arg-item.result) one refl wrote;
      count = c.in_ok-write_all-3.ensures.count ∙ c.in_ok-write_all-2.ensures.count ∙ c.loop-arg.invariant.count;
    }

pub returns-clause-text : goal.returns-clause-text
returns-clause-text g c =
    search (rules, drop_all, writes_last, c.loop-arg.invariant.written, c.write_all-2.ensures.text)
