use Rattle.age_stream.proofs.JudgesLastLemmas.{opened_there, refused_there}
use Rattle.age_stream.proofs.LoadLemmas.{opens_there}
use Rattle.age_stream.proofs.RangeLemmas.{slice_there}
use Rattle.age_stream.proofs.laws.given_is_known.Goals as goal

pub returns : goal.returns
returns g c = record {
  opened = λ dev b k max at s is. opened_there b k max at s (g.met.D.ReadAt.agrees dev b is);
  fault = λ dev b k max at fault is. refused_there b k max at fault (g.met.D.ReadAt.agrees dev b is);
  piece = λ dev b layout i opened is. opens_there b layout i opened (g.met.D.ReadAt.agrees dev b is);
  slice = λ dev b old new layout at n is. slice_there b old new layout at n (g.met.D.ReadAt.agrees dev b is);
}
