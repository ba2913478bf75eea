use Rattle.age_commands.proofs.Common.{◌≤◌, ◌<◌, ◌≡◌, ◌∙◌, ◌+◌, ◌-◌, ◌%◌, ℕ, ap, arith, min, rules, Err, Layout, chunk_size}
use Rattle.age_commands.proofs.RangeLemmas.{some_on}
use Rattle.age_commands.proofs.VerifiedLemmas as verified
use Rattle.age_commands.proofs.range.write_range.Goals as goal

pub returns-in_err-n-clause-any : goal.returns-in_err-n-clause-any
returns-in_err-n-clause-any g c =
    let inv = c.loop-left.invariant in
    let is : c.from_residual.result ≡ Err c.in_err-n.field-0.0 = search rules in
    rw is (verified.failed_on c.args.reader.now.chunks c.loop-left.reader.chunks c.args.at c.args.len c.loop-left.at
    c.loop-left.left c.write_next.ensures.stays_given inv.same inv.end inv.begin inv.some inv.verified
    c.in_err-n.ensures.any)

pub loop-left-preserved : goal.loop-left-preserved
loop-left-preserved g c =
    let inv = c.loop-left.invariant in
    let end : c.loop-left.at + c.loop-left.left ≡ c.args.at + c.args.len = inv.end in
    let same_plain = ap (λ (l : Layout). l.plain) inv.same in
    let number : c.in_ok-n.n ≡ min (min c.loop-left.left (chunk_size - c.loop-left.at % chunk_size))
    (c.args.reader.now.chunks.layout.plain - c.loop-left.at) =
    c.in_ok-n.ensures.number ∙ ap (λ (p : ℕ). min (min c.loop-left.left (chunk_size - c.loop-left.at % chunk_size))
    (p - c.loop-left.at)) same_plain in
    let begin = inv.begin in
    let within = inv.within in
    record {
      end = omega arith;
      begin = omega arith;
      within = omega arith;
      piece = c.in_ok-n.ensures.piece;
      same_reference = c.write_next.ensures.same_reference ∙ inv.same_reference;
      same = c.in_ok-n.ensures.same ∙ inv.same;
      some = search (some_on, number, end, begin, inv.some);
      given = λ at byte was. c.write_next.ensures.stays_given at byte (inv.given at byte was);
      verified = verified.joined c.args.at (c.loop-left.at - c.args.at) c.loop-left.at c.in_ok-n.n
          (c.loop-left.at + c.in_ok-n.n - c.args.at) c.write_next.ensures.stays_given inv.same (omega arith)
          (omega arith) inv.verified c.in_ok-n.ensures.any;
      writes = c.in_ok-n.ensures.writes ∙ inv.writes;
    }

pub returns-then-n-eq0-clause-any : goal.returns-then-n-eq0-clause-any
returns-then-n-eq0-clause-any g c =
    let inv = c.loop-left.invariant in
    let at = c.loop-left.at in
    let left = c.loop-left.left in
    let plain = c.args.reader.now.chunks.layout.plain in
    let n = c.in_ok-n.n in
    let none : n ≡ 0 = c.if-n-eq0.true in
    let number : n ≡ min (min left (chunk_size - at % chunk_size)) (plain - at) =
    c.in_ok-n.ensures.number ∙ ap (λ (p : ℕ). min (min left (chunk_size - at % chunk_size)) (p - at))
    (ap (λ (l : Layout). l.plain) inv.same) in
    let some : at - c.args.at ≤ min c.args.len (plain - c.args.at) = inv.some in
    let more : 0 < left = omega (arith, c.loop-left-test.true) in
    verified.joined c.args.at (at - c.args.at) at n (min c.args.len (plain - c.args.at))
    c.write_next.ensures.stays_given inv.same (omega (arith, inv.begin))
    (omega (arith, none, number, more, some, inv.end, inv.begin)) inv.verified
    c.in_ok-n.ensures.any
