use Rattle.age_file.proofs.RangeLemmas.{header_known}
use Rattle.age_file.proofs.SlicedLemmas.{file_chunk, file_has_len, file_opens, file_slice}
use Rattle.age_file.proofs.laws.file_is_sliced.Goals as goal

pub returns : goal.returns
returns g c = record {
  header = λ dev limits b at h first is. header_known b (g.met.D.ReadAt.agrees dev b is) first;
  opens = file_opens;
  len = λ dev limits answers b p chunks is. file_has_len limits answers b p chunks (g.met.D.ReadAt.agrees dev b is);
  slice = λ dev limits answers b p xs chunks at is v f. file_slice limits answers b p chunks
      (g.met.D.ReadAt.agrees dev b is) v f at xs;
  chunk = λ dev limits answers b p chunks i is v f. file_chunk limits answers b p chunks
      (g.met.D.ReadAt.agrees dev b is) v f i;
}
