use Rattle.age_file.proofs.SalvageLaws.{saved_exactly, saved_fault, saved_plaintext, saved_whole}
use Rattle.age_file.proofs.laws.salvage_is_verdict.Goals as goal

pub returns : goal.returns
returns c = record {
  whole = λ limits answers b plain sink lost s i f. (saved_whole limits answers b plain sink lost s i f).0;
  none = λ limits answers b plain sink lost s i f. (saved_whole limits answers b plain sink lost s i f).1;
  exactly = saved_exactly;
  plaintext = saved_plaintext;
  fault = saved_fault;
}
