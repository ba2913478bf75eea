use Rattle.agefile.proofs.Common.{◌≡◌, ◌∙◌, ap, arith, inl, inr, length, refl, Err, string_bytes, nil_from_length, NoRecipients}
use Rattle.agefile.proofs.HeadingLemmas.{header_made}
use Rattle.agefile.proofs.heading.make_header.Goals as goal

pub returns-then-stanzas-eq0 : goal.returns-then-stanzas-eq0
returns-then-stanzas-eq0 c = inr (
  Err NoRecipients,
  inl (nil_from_length c.args.stanzas.now c.if-stanzas-eq0.true, refl),
  refl,
)

pub returns : goal.returns
returns c =
    header_made c.in_ok-mac.mac (string_bytes c.in_ok-characters.characters)
    (λ e. let none : length c.args.stanzas.now ≡ 0 = ap length e in omega (arith, none, c.if-stanzas-eq0.false))
    (c.in_ok-mac.ensures c.args.stanzas.now (c.as_slice.ensures.value ∙ c.in_ok-probe.ensures))
    c.in_ok-characters.ensures.base64 c.in_ok-characters.ensures.len
    (rw c.as_bytes.ensures.value at c.in_ok-framed.ensures)
