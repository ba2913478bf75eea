use Rattle.age_commands.proofs.Common.{◌≡◌, drop, rules, inr, refl, Err, stream_fault}
use Rattle.age_commands.proofs.RangeLemmas.{written, written_part}
use Rattle.age_commands.proofs.VerifiedLemmas as verified
use Rattle.age_commands.proofs.range.write_next.Goals as goal

pub returns-in_err-n-clause-any : goal.returns-in_err-n-clause-any
returns-in_err-n-clause-any g c =
    let is : c.from_residual.result ≡ Err (stream_fault c.in_err-n.field-0.0) = search rules in
    rw is (verified.stopped c.args.at c.args.left (search rules) refl c.in_err-n.ensures.reads.stop)

pub returns-clause-any : goal.returns-clause-any
returns-clause-any g c =
    let rest = drop c.min-most.result c.args.piece.now in
    written c.read_range.new.buf rest (search rules)
    (verified.filled c.args.at c.read_range.new.buf (search rules) c.in_ok-n.ensures.reads.filled.bytes)
    c.in-Ok.ensures.text

pub returns-in_default-clause-any : goal.returns-in_default-clause-any
returns-in_default-clause-any g c =
    let rest = drop c.min-most.result c.args.piece.now in (
      inr (inr refl),
      written_part c.read_range.new.buf rest (search rules)
          (verified.filled c.args.at c.read_range.new.buf (search rules) c.in_ok-n.ensures.reads.filled.bytes)
          (search rules) c.in_default.ensures.text,
    )
