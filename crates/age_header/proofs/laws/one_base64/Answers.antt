use Rattle.age_header.proofs.Common.{base64_of}
use Rattle.age_header.proofs.Base64Lemmas.{IsBase64-encode, decoded_b64, b64_decoded}
use Rattle.age_header.proofs.laws.one_base64.Goals as goal

pub returns-clause-decoded : goal.returns-clause-decoded
returns-clause-decoded c characters bytes = (decoded_b64 characters bytes, b64_decoded characters bytes)

pub returns-clause-encoded : goal.returns-clause-encoded
unfolding base64_of
returns-clause-encoded c bytes h = IsBase64-encode bytes h
