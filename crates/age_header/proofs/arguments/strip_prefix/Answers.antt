use Rattle.age_header.proofs.Common.{strip_prefix_is, Decides-eqb}
use Rattle.age_header.proofs.arguments.strip_prefix.Goals as goal

pub returns : goal.returns
returns c = strip_prefix_is Decides-eqb c.args.text.now c.args.prefix.now c.strip_prefix.result
    c.strip_prefix.ensures.cases
