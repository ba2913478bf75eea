use Rattle.age_stream.proofs.SalvageReading.{payload_exactly, payload_plaintext, payload_whole}
use Rattle.age_stream.proofs.laws.salvage_is_reading.Goals as goal

pub returns : goal.returns
returns c = record {
  whole = λ k text plain max is. (payload_whole k text plain max is).is;
  exactly = payload_exactly;
  plaintext = payload_plaintext;
}
