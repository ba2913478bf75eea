use Rattle.age_header.proofs.Common.{◌∙◌, [], ◌∷◌, refl, arith, base64_of, body_text, err_from_is_err_and}
use Rattle.age_header.proofs.TextLemmas.{body_step, body_end}
use Rattle.age_header.proofs.DeviceLemmas.{done_more, done_part, writes_last}
use Rattle.age_header.proofs.writer.write_body.Goals as goal

pub returns-in_err-write_base64-clause-text : goal.returns-in_err-write_base64-clause-text
returns-in_err-write_base64-clause-text g c =
    let piece = c.split_at.result.0.now in
    let step = body_step c.loop-rest.rest.now c.split_at.ensures.front c.split_at.ensures.back (omega arith) in
    rw (err_from_is_err_and c.from_residual.result c.from_residual.ensures.1).1
    (done_part (g.W.Sink.taken c.write_base64.new.out) (base64_of piece) (10 ∷ body_text c.split_at.result.1.now)
    c.loop-rest.invariant.written step c.in_err-write_base64.ensures.text)

pub returns-in_err-write_all-clause-text : goal.returns-in_err-write_all-clause-text
returns-in_err-write_all-clause-text g c =
    let piece = c.split_at.result.0.now in
    let step = body_step c.loop-rest.rest.now c.split_at.ensures.front c.split_at.ensures.back (omega arith) in
    let one = done_more (base64_of piece) c.loop-rest.invariant.written step c.in_ok-write_base64.ensures.text in
    rw (err_from_is_err_and c.from_residual-in_err-write_all.result c.from_residual-in_err-write_all.ensures.1).1
    (done_part (g.W.Sink.taken c.write_all.new.out) (10 ∷ []) (body_text c.split_at.result.1.now) one refl
    c.in_err-write_all.ensures.text)

pub loop-rest-preserved : goal.loop-rest-preserved
loop-rest-preserved g c =
    let piece = c.split_at.result.0.now in
    let step = body_step c.loop-rest.rest.now c.split_at.ensures.front c.split_at.ensures.back (omega arith) in
    let one = done_more (base64_of piece) c.loop-rest.invariant.written step c.in_ok-write_base64.ensures.text in
    record {
      written = done_more (10 ∷ []) one refl c.in_ok-write_all.ensures.text;
      count = c.in_ok-write_all.ensures.count ∙ c.in_ok-write_base64.ensures.count ∙ c.loop-rest.invariant.count;
    }

pub returns-in_err-write_base64-2-clause-text : goal.returns-in_err-write_base64-2-clause-text
returns-in_err-write_base64-2-clause-text g c =
    let end = body_end c.loop-rest.rest.now (omega arith) in
    rw
    (err_from_is_err_and c.from_residual-in_err-write_base64-2.result c.from_residual-in_err-write_base64-2.ensures.1).1
    (done_part (g.W.Sink.taken c.write_base64-2.new.out) (base64_of c.loop-rest.rest.now) (10 ∷ [])
    c.loop-rest.invariant.written end c.in_err-write_base64-2.ensures.text)

pub returns-clause-text : goal.returns-clause-text
returns-clause-text g c =
    let end = body_end c.loop-rest.rest.now (omega arith) in
    let one = done_more (base64_of c.loop-rest.rest.now) c.loop-rest.invariant.written end
    c.in_ok-write_base64-2.ensures.text in
    search (writes_last, one, c.write_all-2.ensures.text)
