use Rattle.age_header.proofs.Common.{map, length, string_bytes}
use Rattle.age_header.proofs.ArgumentsLemmas.{Parsed}
use Rattle.age_header.proofs.arguments.Arguments.parse.Given as goal

abbrev pub invariant-loop-rest : goal.invariant-loop-rest
invariant-loop-rest l = Parsed l.text (map string_bytes l.texts.items) l.rest

abbrev pub decreases-loop-rest : goal.decreases-loop-rest
decreases-loop-rest l = length l.rest
