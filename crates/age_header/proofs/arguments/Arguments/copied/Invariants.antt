use Rattle.age_header.proofs.Common.{◌≡◌, map, take, string_bytes}
use Rattle.age_header.proofs.arguments.Arguments.copied.Given as goal

abbrev pub invariant-loop-text : goal.invariant-loop-text
invariant-loop-text l = map string_bytes l.copies.items ≡ take l.text-index (map (λ a. a.now) l.texts)
