use Rattle.age_stream.proofs.PayloadLemmas.{ok_is_payload_both, whole_count}
use Rattle.age_stream.proofs.laws.ok_is_payload.Goals as goal

pub returns : goal.returns
returns c = record { ok = ok_is_payload_both; count = whole_count }
