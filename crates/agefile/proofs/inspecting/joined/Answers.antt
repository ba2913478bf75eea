use Rattle.std.specs.String.{string_bytes}
use Rattle.agefile.proofs.HeaderLemmas.{joined_text}
use Rattle.agefile.proofs.inspecting.joined.Goals as goal

pub returns : goal.returns
returns c = joined_text string_bytes c.args-2.result.now c.join.result c.args-2.ensures.value c.join.ensures.ok
