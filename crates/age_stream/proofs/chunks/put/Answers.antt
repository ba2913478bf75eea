use Rattle.age_stream.proofs.Common.{arith, ◌≡◌, ◌++◌, ◌∙◌, ap, sym}
use Rattle.age_stream.proofs.RangeLemmas.{drop_past}
use Rattle.age_stream.proofs.chunks.put.Goals as goal

pub returns-clause-rest : goal.returns-clause-rest
returns-clause-rest c =
    let front = c.split_at_mut-tail.result.0.now in
    let hole = c.split_at_mut-hole.result.0.now in
    let rest = c.split_at_mut-hole.result.1.now in
    let new = c.copy_from_slice.new.self in
    let len = c.copy_from_slice.auto.self in
    let all : c.args.buf.now ≡ front ++ (hole ++ rest) = c.split_at_mut-tail.ensures.value
    ∙ ap (λ l. front ++ l) c.split_at_mut-hole.ensures.value in
    rw all (drop_past front new rest (omega (arith, len)) ∙ sym (drop_past front hole rest (omega arith)))
