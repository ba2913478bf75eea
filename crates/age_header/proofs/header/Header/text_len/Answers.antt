use Rattle.age_header.proofs.Common.{◌++◌, take_all, Bytes, signed_text, mac_end}
use Rattle.age_header.proofs.TextLemmas.{header_text_is}
use Rattle.age_header.proofs.LengthLemmas.{header_size}
use Rattle.age_header.proofs.header.Header.text_len.Goals as goal

pub returns : goal.returns
returns c =
    let ss = c.args.self.now.stanzas in
    let mac : Bytes = c.args.self.now.mac in
    let all = take_all c.loop-stanza.stanza-index c.stanzas-stanza-items.result.now c.loop-stanza-test.false in
    let is = rw (all, c.stanzas-stanza-items.ensures.value) at c.loop-stanza.invariant in
    let size = header_size ss mac c.stanzas-stanza-items.ensures.whole.mac_len in
    (signed_text ss ++ mac_end mac, header_text_is ss mac c.stanzas-stanza-items.ensures.whole, rw size is)
