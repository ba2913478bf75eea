use Rattle.age_header.proofs.Common.{base64_of, IfOk-weaker, arith}
use Rattle.age_header.proofs.Base64Lemmas.{encode_of_unpadded}
use Rattle.age_header.proofs.base64_no_pad.encode.Goals as goal

pub returns : goal.returns
unfolding base64_of
returns c =
    grind (arith, encode_of_unpadded, IfOk-weaker, c.requires.unpadded, c.requires.characters, c.encode.ensures.text)
