use Rattle.age_kdf.proofs.Common.{◌≡◌, ◌*◌, take, x_after, evens, odds}
use Rattle.age_kdf.proofs.block_mix.block_mix.Given as goal

abbrev pub invariant-pairs : goal.invariant-pairs
invariant-pairs l = record {
  x : l.x ≡ x_after l.r l.from (2 * l.i);
  even : take (16 * l.i) l.even ≡ evens l.r l.from l.i;
  odd : take (16 * l.i) l.odd ≡ odds l.r l.from l.i;
}
