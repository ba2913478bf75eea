use Rattle.age_header.proofs.Common.{rules}
use Rattle.age_header.proofs.signing.signed_text.Goals as goal

pub returns-in-Ok : goal.returns-in-Ok
returns-in-Ok c =
    search (rules, c.into_vec.ensures, c.new-text.ensures.bytes, c.in-Ok.ensures.text, c.new.ensures.items)
