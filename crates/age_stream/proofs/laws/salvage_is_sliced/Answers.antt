use Rattle.age_stream.proofs.Common.{drop, take, payload_key, pieces}
use Rattle.age_stream.proofs.SalvageSlices.{salvaged_len, slice_saved}
use Rattle.age_stream.proofs.laws.salvage_is_sliced.Goals as goal

pub returns : goal.returns
returns c = record {
  slice = slice_saved;
  len = λ k text. salvaged_len (payload_key k (take 16 text)) 0 (pieces (drop 16 text));
}
