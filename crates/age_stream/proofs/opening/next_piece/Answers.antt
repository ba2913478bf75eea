use Rattle.age_stream.proofs.Common.{rules, ◌≡◌, Err, Ok, inr}
use Rattle.age_stream.proofs.OpeningLemmas.{reads_piece}
use Rattle.age_stream.proofs.opening.next_piece.Goals as goal

pub returns-in_err-len-clause-opens : goal.returns-in_err-len-clause-opens
returns-in_err-len-clause-opens g c =
    let is : c.from_residual.result ≡ Err c.in_err-len.field-0.0 = search rules in
    rw is (inr (reads_piece (Err c.in_err-len.field-0.0) c.in-Ok.ensures.reads c.read_piece.ensures.len
    (rw c.min.ensures at c.in_err-len.ensures.text) (rw c.min.ensures at c.open_chunk.ensures.rest)))

pub returns-clause-opens : goal.returns-clause-opens
returns-clause-opens g c =
    inr (reads_piece (Ok c.in_ok-len.len) c.in-Ok.ensures.reads c.read_piece.ensures.len
    (rw c.min.ensures at c.in_ok-len.ensures.text) (rw c.min.ensures at c.open_chunk.ensures.rest))
