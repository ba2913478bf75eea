use Rattle.age_file.proofs.CopiesLemmas.{copied_then, copies_ahead_then}
use Rattle.age_file.proofs.copying.copy_all.Goals as goal

pub returns-in-Ok-true-clause-copies : goal.returns-in-Ok-true-clause-copies
returns-in-Ok-true-clause-copies g c =
    let (piece, took, put, full) = rw c.in-Ok-true.field-0-test at c.in-Ok-true.ensures.copies in
    search (copied_then, took, put, c.copy_pieces.ensures.copies)

pub returns-in-Ok-true-clause-ahead : goal.returns-in-Ok-true-clause-ahead
returns-in-Ok-true-clause-ahead g c =
    let (piece, took, put, full) = rw c.in-Ok-true.field-0-test at c.in-Ok-true.ensures.copies in
    search (copies_ahead_then, took, put, c.copy_pieces.ensures.ahead)
