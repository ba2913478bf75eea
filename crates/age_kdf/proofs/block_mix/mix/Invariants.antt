use Rattle.age_kdf.proofs.Common.{◌≡◌, ℕ, ◌<◌, ◌≤◌, ◌+◌, length, get_or, bit_xor}
use Rattle.age_kdf.proofs.block_mix.mix.Given as goal

abbrev pub invariant-words : goal.invariant-words
invariant-words l = record {
  long : length l.x ≡ 16;
  done : (k : ℕ) → k < l.i → get_or l.x k 0 ≡ bit_xor (get_or l.fn.x k 0) (get_or l.from (l.at + k) 0);
  rest : (k : ℕ) → l.i ≤ k → get_or l.x k 0 ≡ get_or l.fn.x k 0;
}
