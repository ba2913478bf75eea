use Rattle.age_header.proofs.Common.{◌≡◌, ◌+◌, ◌-◌, ◌^◌, min, length, map, take, string_bytes}
use Rattle.age_header.proofs.ArgumentsLemmas.{spaced}
use Rattle.age_header.proofs.size.args_len.Given as goal

abbrev pub invariant-loop-arg : goal.invariant-loop-arg
invariant-loop-arg l = l.len ≡ min (3 + length (spaced (map string_bytes (take l.arg-index l.args)))) (2 ^ 64 - 1)
