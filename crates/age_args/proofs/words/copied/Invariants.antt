use Rattle.age_args.proofs.Common.{◌≡◌, map, take, string_bytes}
use Rattle.age_args.proofs.words.copied.Given as goal

abbrev pub invariant-loop-text : goal.invariant-loop-text
invariant-loop-text l = map string_bytes l.copies.items ≡ take l.text-index (map (λ a. a.now) l.texts)
