use Rattle.age_header.proofs.Common.{◌∙◌, ◌++◌, ◌+◌, drop, flat_map, refl, codes, append_assoc, drop_all, Bytes, argument_line, version_line, body_text, stanza_text, signed_text, err_from_is_err_and, rules}
use Rattle.age_header.proofs.TextLemmas.{stanza_step}
use Rattle.age_header.proofs.DeviceLemmas.{done_start, done_more, done_part, writes_last}
use Rattle.age_header.proofs.writer.write_signed.Goals as goal

pub returns-in_err-write_all-clause-text : goal.returns-in_err-write_all-clause-text
unfolding signed_text version_line
returns-in_err-write_all-clause-text g c =
    let ss = c.args.stanzas.now in
    let rest : Bytes = flat_map stanza_text ss ++ codes "---" in
    rw (err_from_is_err_and c.from_residual.result c.from_residual.ensures.1).1
    (done_part (g.W.Sink.taken c.write_all.new.out) version_line rest (done_start (signed_text ss))
    (append_assoc version_line (flat_map stanza_text ss) (codes "---")) c.in_err-write_all.ensures.text)

pub loop-stanza-init : goal.loop-stanza-init
unfolding signed_text version_line
loop-stanza-init g c =
    let ss = c.args.stanzas.now in
    record {
      written = done_more version_line (done_start (signed_text ss))
          (append_assoc version_line (flat_map stanza_text ss) (codes "---")) c.in_ok-write_all.ensures.text;
      count = c.in_ok-write_all.ensures.count;
    }

pub returns-in_err-write_args-clause-text : goal.returns-in_err-write_args-clause-text
returns-in_err-write_args-clause-text g c =
    let rest : Bytes =
    flat_map stanza_text (drop (c.loop-stanza.stanza-index + 1) c.args.stanzas.now) ++ codes "---" in
    let s = c.stanza-item.result in
    let step = stanza_step c.args.stanzas.now c.loop-stanza.stanza-index s c.loop-stanza-test.true c.stanza-item.is in
    let failed = rw c.args-in-loop-stanza.ensures.value at c.in_err-write_args.ensures.text in
    rw (err_from_is_err_and c.from_residual-in_err-write_args.result c.from_residual-in_err-write_args.ensures.1).1
    (done_part (g.W.Sink.taken c.write_args.new.out) (argument_line s.args) (body_text s.body ++ rest)
    c.loop-stanza.invariant.written step failed)

pub returns-in_err-write_body-clause-text : goal.returns-in_err-write_body-clause-text
returns-in_err-write_body-clause-text g c =
    let rest : Bytes =
    flat_map stanza_text (drop (c.loop-stanza.stanza-index + 1) c.args.stanzas.now) ++ codes "---" in
    let s = c.stanza-item.result in
    let step = stanza_step c.args.stanzas.now c.loop-stanza.stanza-index s c.loop-stanza-test.true c.stanza-item.is in
    let wrote = rw c.args-in-loop-stanza.ensures.value at c.in_ok-write_args.ensures.text in
    let one = done_more (argument_line s.args) c.loop-stanza.invariant.written step wrote in
    let failed = rw c.body.ensures.value at c.in_err-write_body.ensures.text in
    rw (err_from_is_err_and c.from_residual-in_err-write_body.result c.from_residual-in_err-write_body.ensures.1).1
    (done_part (g.W.Sink.taken c.write_body.new.out) (body_text s.body) rest one refl failed)

pub loop-stanza-preserved : goal.loop-stanza-preserved
loop-stanza-preserved g c =
    let s = c.stanza-item.result in
    let step = stanza_step c.args.stanzas.now c.loop-stanza.stanza-index s c.loop-stanza-test.true c.stanza-item.is in
    let args = rw c.args-in-loop-stanza.ensures.value at c.in_ok-write_args.ensures.text in
    let one = done_more (argument_line s.args) c.loop-stanza.invariant.written step args in
    let body = rw c.body.ensures.value at c.in_ok-write_body.ensures.text in
    record {
      written = done_more (body_text s.body) one refl body;
      count = c.in_ok-write_body.ensures.count ∙ c.in_ok-write_args.ensures.count ∙ c.loop-stanza.invariant.count;
    }

pub returns-clause-text : goal.returns-clause-text
returns-clause-text g c =
    search (rules, drop_all, writes_last, c.loop-stanza.invariant.written, c.write_all-2.ensures.text)
