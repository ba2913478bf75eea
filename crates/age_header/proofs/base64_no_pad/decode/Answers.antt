use Rattle.age_header.proofs.Common.{◌∙◌, sym, subst, Bytes, IsBase64}
use Rattle.age_header.proofs.Base64Lemmas.{IsBase64-only, IsBase64-encode, IsBase64-bytes, encode_of_unpadded, b64_decoded, none_decoded}
use Rattle.age_header.proofs.base64_no_pad.decode.Goals as goal

pub returns-in-Ok-clause-some : goal.returns-in-Ok-clause-some
returns-in-Ok-clause-some c =
    let is = c.in-Ok.ensures.exact c.requires.strict in
    let plain = encode_of_unpadded c.args.engine.now c.in-Ok.bytes.items c.requires.unpadded c.requires.characters in
    subst (λ (s : Bytes). IsBase64 c.in-Ok.bytes.items s) (sym (is ∙ plain))
    (IsBase64-encode c.in-Ok.bytes.items c.in-Ok.ensures.bytes)

pub returns-in-Err-DecodeError-clause-none : goal.returns-in-Err-DecodeError-clause-none
returns-in-Err-DecodeError-clause-none c b h =
    let is = IsBase64-only b h in
    let plain = encode_of_unpadded c.args.engine.now b c.requires.unpadded c.requires.characters in
    let read = (c.decode.ensures.strict c.requires.strict b (IsBase64-bytes b c.args.text.now h)).1 (is ∙ sym plain) in
    let failed = rw c.in-Err-DecodeError.field-0-is at c.in-Err-DecodeError.ensures.err in
    cc (read, failed)

pub returns-in-Ok-clause-value : goal.returns-in-Ok-clause-value
returns-in-Ok-clause-value c = sym (b64_decoded c.args.text.now c.in-Ok.bytes.items (returns-in-Ok-clause-some c))

pub returns-in-Err-DecodeError-clause-value : goal.returns-in-Err-DecodeError-clause-value
returns-in-Err-DecodeError-clause-value c =
    sym (none_decoded c.args.text.now (returns-in-Err-DecodeError-clause-none c))
