use Rattle.age_stream.proofs.Common.{arith, ◌≡◌, ◌+◌, ◌-◌, ◌∙◌, ap, refl, inr, take, Some, None, OnTrue_at, OnFalse_at, chunk_len}
use Rattle.age_stream.proofs.loading.load.Goals as goal
