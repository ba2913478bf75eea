use Rattle.std.proofs.Common.{◌≡◌, ◌∙◌, ap, ◌-◌, arith, drop, take, length}
use Rattle.agefile.proofs.WrapLemmas.{signed_least, text_given}
use Rattle.agefile.proofs.wrapping.give_text.Goals as goal

pub overflow_sub-len : goal.overflow_sub-len
overflow_sub-len c = omega (arith, signed_least c.stanzas.result.now, ap length c.in-Ok.ensures, c.len.ensures)

pub split_at-requires-in-Ok : goal.split_at-requires-in-Ok
split_at-requires-in-Ok c = omega (
  arith,
  signed_least c.stanzas.result.now,
  ap length c.in-Ok.ensures,
  c.len.ensures,
  c.split_at.ensures.front_len,
)

pub returns-in-Ok : goal.returns-in-Ok
returns-in-Ok c stanza one =
    let size : c.len.result ≡ length c.in-Ok.text.items =
    omega (arith, c.len.ensures, c.as_slice.ensures.len, ap length c.as_slice.ensures.value) in
    text_given stanza c.in-Some.header.stanzas c.in-Ok.text.items (c.in-Some.ensures.some.1 ∙ one)
    c.stanzas.ensures.whole (rw c.stanzas.ensures.value at c.in-Ok.ensures)
    (c.split_at-in-Ok.ensures.back ∙ ap (drop 22)
    (c.split_at.ensures.front ∙ ap (take (c.len.result - 3)) c.as_slice.ensures.value
    ∙ ap (λ n. take (n - 3) c.in-Ok.text.items) size)) c.give_whole.ensures
