use Rattle.agefile.proofs.Common.{◌∙◌, ◌<◌, ap, length, subst, sealed_len}
use Rattle.agefile.proofs.HeadingLemmas.{key_file, pass_file}
use Rattle.agefile.proofs.sizes.agefile_sealed_len.Goals as goal

pub returns-clause-key : goal.returns-clause-key
returns-clause-key c key salt stanza file_key nonce plain file salted keyed fresh len is new =
    key_file key salt stanza file_key nonce plain file salted keyed fresh is new ∙ ap sealed_len len

pub returns-clause-pass : goal.returns-clause-pass
returns-clause-pass c pass salt stanza file_key nonce plain file work salted keyed fresh fits len is new =
    subst (λ n. length file < sealed_len n) len
    (pass_file pass salt stanza file_key nonce plain file work salted keyed fresh fits.1 is new)
