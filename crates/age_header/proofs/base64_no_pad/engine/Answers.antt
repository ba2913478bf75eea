use Rattle.age_header.proofs.Common.{rules, alphabet}
use Rattle.age_header.proofs.base64_no_pad.engine.Goals as goal

pub returns : goal.returns
unfolding alphabet
returns c = search (rules, c.new-2.ensures.symbols, c.in-Ok.ensures.ok.0)
