use Rattle.age_kdf.proofs.Common.{sym, refl, slice_index, fill_by_all}
use Rattle.age_kdf.proofs.salsa.diagonals.Goals as goal

pub returns : goal.returns
returns c = sym (fill_by_all (λ k. slice_index c.args.x.now k) c.args.x.now 16 0 c.told-x (λ k below. refl))
