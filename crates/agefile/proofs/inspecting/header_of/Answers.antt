use Rattle.agefile.proofs.HeaderLemmas.{found_whole, header_found}
use Rattle.agefile.proofs.inspecting.header_of.Goals as goal

pub returns : goal.returns
returns c b near =
    found_whole b c.inspect.result near
    (header_found _ _ c.new.ensures c.inspect.ensures.reads (rw c.limits.ensures at c.inspect.ensures.verdict))
