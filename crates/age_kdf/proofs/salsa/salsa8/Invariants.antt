use Rattle.age_kdf.proofs.Common.{◌≡◌, double_rounds, words_in_order}
use Rattle.age_kdf.proofs.salsa.salsa8.Given as goal

abbrev pub invariant-rounds : goal.invariant-rounds
invariant-rounds l = words_in_order l.s ≡ double_rounds l._round (words_in_order l.first)
