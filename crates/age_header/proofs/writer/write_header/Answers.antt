use Rattle.age_header.proofs.Common.{◌++◌, refl, Bytes, Head, signed_text, mac_end, err_from_is_err_and}
use Rattle.age_header.proofs.TextLemmas.{header_text_is}
use Rattle.age_header.proofs.DeviceLemmas.{done_start, done_more, done_part, writes_last}
use Rattle.age_header.proofs.writer.write_header.Goals as goal

pub returns-in_err-write_signed-clause-text : goal.returns-in_err-write_signed-clause-text
returns-in_err-write_signed-clause-text g c =
    let ss = c.args.header.now.stanzas in
    let mac : Bytes = c.args.header.now.mac in
    let text : Bytes = signed_text ss ++ mac_end mac in
    let head : Head ss mac text = header_text_is ss mac c.stanzas.ensures.whole in
    let failed = rw c.stanzas.ensures.value at c.in_err-write_signed.ensures.text in (
      text,
      head,
      rw (err_from_is_err_and c.from_residual.result c.from_residual.ensures.1).1
          (done_part (g.W.Sink.taken c.write_signed.new.out) (signed_text ss) (mac_end mac) (done_start text)
          refl failed),
    )

pub returns-clause-text : goal.returns-clause-text
returns-clause-text g c =
    let ss = c.args.header.now.stanzas in
    let mac : Bytes = c.args.header.now.mac in
    let text : Bytes = signed_text ss ++ mac_end mac in
    let head : Head ss mac text = header_text_is ss mac c.stanzas.ensures.whole in
    let prefix = rw c.stanzas.ensures.value at c.in_ok-write_signed.ensures.text in
    let one = done_more (signed_text ss) (done_start text) refl prefix in
    let last = rw c.mac.ensures at c.write_mac.ensures.text in
    (text, head, search (writes_last, one, last))
