use Rattle.age_kdf.proofs.Common.{◌≡◌, arith, ◌∙◌, ap₂, add-one, zip2, salsa8, double_rounds, add32}
use Rattle.age_kdf.proofs.salsa.salsa8.Goals as goal

pub rounds-preserved : goal.rounds-preserved
unfolding double_rounds
rounds-preserved c = search (add-one, c.rows-s.ensures, c.columns.ensures, c.rounds.invariant)

pub returns : goal.returns
unfolding salsa8
returns c =
    let end : c.rounds._round ≡ 4 = omega arith in
    c.sums.ensures
    ∙ ap₂ (zip2 add32) c.diagonals-first.ensures (c.rounds.invariant ∙ ap₂ double_rounds end c.diagonals-first.ensures)
