use Rattle.age_kdf.proofs.Common.{◌≡◌, ℕ, ◌<◌, ◌≤◌, bit_xor, get_or, length}
use Rattle.age_kdf.proofs.hmac_sha256.xored.Given as goal

abbrev pub invariant-bytes : goal.invariant-bytes
invariant-bytes l = record {
  long : length l.out ≡ 64;
  done : (k : ℕ) → k < l.i → get_or l.out k 0 ≡ bit_xor (get_or l.block k 0) l.pad;
  rest : (k : ℕ) → l.i ≤ k → get_or l.out k 0 ≡ get_or l.block k 0;
}
