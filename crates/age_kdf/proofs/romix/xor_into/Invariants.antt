use Rattle.age_kdf.proofs.Common.{◌≡◌, ℕ, ◌<◌, ◌≤◌, get_or, bit_xor}
use Rattle.age_kdf.proofs.romix.xor_into.Given as goal

abbrev pub invariant-words : goal.invariant-words
invariant-words l = record {
  done : (j : ℕ) → j < l.k → get_or l.x j 0 ≡ bit_xor (get_or l.fn.x j 0) (get_or l.row j 0);
  rest : (j : ℕ) → l.k ≤ j → get_or l.x j 0 ≡ get_or l.fn.x j 0;
}
