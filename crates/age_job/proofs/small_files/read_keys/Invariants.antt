use Rattle.std.proofs.Common.{◌≤◌, ◌<◌, ◌+◌}
use Rattle.std.specs.Prelude.{vec_len}
use Rattle.age_job.proofs.small_files.read_keys.Given as goal

abbrev pub invariant-loop-name : goal.invariant-loop-name
invariant-loop-name g l = (0 < vec_len l.keys) × (vec_len l.keys ≤ 1 + l.name-index)
