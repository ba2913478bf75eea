use Rattle.age_kdf.proofs.Common.{[], slice_index, ◌∙◌, four_steps, slice_index_or}
use Rattle.age_kdf.proofs.DiagonalLemmas.{rows_spread}
use Rattle.age_kdf.proofs.salsa.rows.Goals as goal

pub returns : goal.returns
returns c =
    let s = c.args.s in
    let a = slice_index_or s 0 [] in
    let d = c.turned_1.ensures in
    let e = c.turned_2.ensures in
    let b = c.turned_3.ensures in
    rw (c.turned_1-2.ensures, c.turned_2-2.ensures, c.turned_3-2.ensures)
    (rows_spread a (slice_index_or s 1 []) (slice_index_or s 2 []) (slice_index_or s 3 []) _ _ _ _
    (λ j inside. c.quarter.ensures j inside
    ∙ (λ i. four_steps (slice_index a j) (slice_index (d i) j) (slice_index (e i) j) (slice_index (b i) j))))
