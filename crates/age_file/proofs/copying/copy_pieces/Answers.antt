use Rattle.age_file.proofs.Common.{◌∙◌, arith, length, Err}
use Rattle.age_file.proofs.CopiesLemmas.{copied_all, copied_more, copied_then, copies_ahead_then, piece_ahead, piece_failed}
use Rattle.age_file.proofs.copying.copy_pieces.Goals as goal

pub loop-copied-preserved : goal.loop-copied-preserved
loop-copied-preserved g c =
    let piece = rw c.in-Ok-true.field-0-test at c.in-Ok-true.ensures.copies in record {
      size = c.in-Ok-true.ensures.len ∙ c.loop-copied.invariant.size;
      copied = copied_more c.loop-copied.invariant.size c.loop-copied.invariant.copied piece;
      reads = c.in-Ok-true.ensures.reads ∙ c.loop-copied.invariant.reads;
      writes = c.in-Ok-true.ensures.writes ∙ c.loop-copied.invariant.writes;
    }

pub returns-in-Ok-false-clause-copies : goal.returns-in-Ok-false-clause-copies
returns-in-Ok-false-clause-copies g c =
    let piece = rw c.in-Ok-false.field-0-test at c.in-Ok-false.ensures.copies in
    copied_all (length c.loop-copied.buf) _ c.loop-copied.invariant.copied piece

pub returns-in-Err-clause-copies : goal.returns-in-Err-clause-copies
returns-in-Err-clause-copies g c =
    let so = c.loop-copied.invariant.copied in
    copied_then _ _ _ _ (Err c.in-Err.fault) so.took so.put
    (piece_failed _ _ _ _ _ c.in-Err.fault c.in-Err.ensures.copies)

pub returns-in-Err-clause-ahead : goal.returns-in-Err-clause-ahead
returns-in-Err-clause-ahead g c =
    let so = c.loop-copied.invariant.copied in
    copies_ahead_then _ _ _ _ (Err c.in-Err.fault) so.took so.put
    (piece_ahead _ _ _ c.in-Err.fault (omega (arith, c.loop-copied.invariant.size)) c.in-Err.ensures.copies)
