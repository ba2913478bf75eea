use Rattle.age_header.proofs.Common.{arith, rules, append-nil, drop_all, ◌≡◌, ◌∙◌, ◌++◌, length, sym, ap, subst, encoded_size_of, encode_of, Bytes, IsBase64, HeaderParts, mac_size, replicate}
use Rattle.age_header.proofs.Base64Lemmas.{IsBase64-encode, encode_of_unpadded}
use Rattle.age_header.proofs.TextLemmas.{encoded_size_plain}
use Rattle.age_header.proofs.header.Header.mac_signs.Goals as goal

pub returns : goal.returns
returns c =
    let e = c.engine.result in
    let m : Bytes = c.self.inside.mac in
    let size = encoded_size_plain e (length m) c.engine.ensures in
    let plain = encode_of_unpadded e m c.engine.ensures.unpadded c.engine.ensures.characters in
    let long : length m ≡ mac_size = search rules in
    let rest = drop_all (encoded_size_of e (length m)) (replicate 43 0) (omega arith) in
    let is = c.in-Ok.ensures.written ∙ ap (λ (z : Bytes). encode_of e m ++ z) rest ∙ append-nil (encode_of e m)
    ∙ plain in
    let characters : Bytes = c.encode_slice.new.output in
    let here : IsBase64 m characters = subst (λ (z : Bytes). IsBase64 m z) (sym is)
    (IsBase64-encode m (search rules)) in
    subst (λ (z : HeaderParts). IsBase64 z.mac characters) c.self.view_is here

pub unreachable-requires : goal.unreachable-requires
unreachable-requires c = search (rules, encoded_size_plain, c.engine.ensures, c.encode_slice.ensures.fits)
