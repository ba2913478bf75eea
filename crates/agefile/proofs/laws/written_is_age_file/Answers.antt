use Rattle.agefile.proofs.HeadingLemmas.{new_file, one_file}
use Rattle.agefile.proofs.laws.written_is_age_file.Goals as goal

pub returns : goal.returns
returns c = record {
  any =
      λ stanzas file_key nonce plain file len is.
      let f = new_file stanzas file_key nonce plain file len is in
      (f.0, f.1);
  one = one_file;
}
