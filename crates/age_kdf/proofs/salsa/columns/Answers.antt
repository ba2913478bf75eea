use Rattle.age_kdf.proofs.DiagonalLemmas.{columns_spread}
use Rattle.age_kdf.proofs.salsa.columns.Goals as goal

pub returns : goal.returns
returns c = search (columns_spread, c.quarter.ensures)
