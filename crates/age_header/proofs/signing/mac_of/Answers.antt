use Rattle.age_header.proofs.Common.{◌∙◌, refl, append-nil, header_mac}
use Rattle.age_header.proofs.signing.mac_of.Goals as goal

pub returns : goal.returns
unfolding header_mac
returns c = c.hmac.ensures ∙ rw (c.hkdf.ensures, append-nil, c.as_slice.ensures.value, c.in_ok-text.ensures) refl
