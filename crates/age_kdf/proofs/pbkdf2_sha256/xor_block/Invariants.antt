use Rattle.age_kdf.proofs.Common.{◌≡◌, ℕ, ◌<◌, ◌≤◌, length, get_or, bit_xor}
use Rattle.age_kdf.proofs.pbkdf2_sha256.xor_block.Given as goal

abbrev pub invariant-bytes : goal.invariant-bytes
invariant-bytes l = record {
  done : (j : ℕ) → j < l.k → get_or l.sum j 0 ≡ bit_xor (get_or l.fn.sum j 0) (get_or l.block j 0);
  rest : (j : ℕ) → l.k ≤ j → get_or l.sum j 0 ≡ get_or l.fn.sum j 0;
  long : length l.sum ≡ 32;
}
