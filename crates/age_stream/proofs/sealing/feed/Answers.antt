use Rattle.age_stream.proofs.Common.{rules, arith, ◌≡◌, ◌++◌, ◌∙◌, refl, [], length, take, Err, length-take-le, gave_none, gave_then, Bytes}
use Rattle.age_stream.proofs.SealingLemmas.{fed_end, fed_next, fed_none, full_is, stopped_full, stopped_read}
use Rattle.age_stream.proofs.sealing.feed.Goals as goal

pub loop-n-init : goal.loop-n-init
loop-n-init g c = record {
  size = c.requires.size;
  held = c.requires.held;
  within = c.requires.within;
  reads = refl;
  writes = refl;
  fed = ([], gave_none, fed_none);
}

pub returns-in-Err-clause-fed : goal.returns-in-Err-clause-fed
returns-in-Err-clause-fed g c =
    let inv = c.loop-n.invariant.fed in
    stopped_read inv.2 c.args.max inv.1 c.in-Err.ensures.lost

pub returns-then-is_last-clause-fed : goal.returns-then-is_last-clause-fed
returns-then-is_last-clause-fed g c =
    let inv = c.loop-n.invariant.fed in
    let f = c.in-Ok.ensures.bytes.1 in
    let now : Bytes = take c.loop-n.held c.loop-n.bytes in
    let l : length now ≡ c.loop-n.held =
    length-take-le c.loop-n.held c.loop-n.bytes (omega (arith, c.loop-n.invariant.held, c.loop-n.invariant.size)) in
    (rw f.is (fed_end inv.2 f.piece (omega (arith, f.len)) inv.1 f.bytes), c.in-Ok.ensures.end (search rules))

pub returns-in_err-put_full-clause-fed : goal.returns-in_err-put_full-clause-fed
returns-in_err-put_full-clause-fed g c =
    let is : c.from_residual.result ≡ Err c.in_err-put_full.field-0.0 = search rules in
    let inv = c.loop-n.invariant.fed in
    let f = c.in-Ok.ensures.bytes.1 in
    let h = full_is (omega arith) c.in-Ok.ensures.bytes.0 c.loop-n.invariant.held c.loop-n.invariant.size
    c.in-Ok.ensures.size f in
    rw is (stopped_full inv.2 h inv.1 f.bytes c.loop-n.invariant.within c.in_err-put_full.ensures.puts)

pub loop-n-preserved : goal.loop-n-preserved
loop-n-preserved g c =
    let inv = c.loop-n.invariant.fed in
    let f = c.in-Ok.ensures.bytes.1 in
    let h = full_is (omega arith) c.in-Ok.ensures.bytes.0 c.loop-n.invariant.held c.loop-n.invariant.size
    c.in-Ok.ensures.size f in
    let puts = c.in_ok-put_full.ensures.puts in
    record {
      size = c.put_full.ensures.size;
      held = omega arith;
      within = c.put_full.ensures.within;
      reads = c.in-Ok.ensures.count ∙ c.loop-n.invariant.reads;
      writes = c.in_ok-put_full.ensures.writes ∙ c.loop-n.invariant.writes;
      fed = (inv.0 ++ f.piece, gave_then inv.1 f.bytes, fed_next inv.2 h puts.0 puts.2 puts.1);
    }
