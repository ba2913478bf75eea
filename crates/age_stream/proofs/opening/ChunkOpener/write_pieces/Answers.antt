use Rattle.age_stream.proofs.Common.{rules, arith, refl, inr, length}
use Rattle.age_stream.proofs.WritesAllLemmas.{advanced, failed_ends, failed_writes, opened_none, opened_more, opened_room, writes_done, writes_write, ends_write}
use Rattle.age_stream.proofs.opening.ChunkOpener.write_pieces.Goals as goal

pub loop-done-init : goal.loop-done-init
loop-done-init g c = record {
  opened = opened_none c.args.self c.requires;
  count = omega arith;
  reads = refl;
  writes = refl;
}

pub returns-in-Ok-false-clause-writes_all : goal.returns-in-Ok-false-clause-writes_all
returns-in-Ok-false-clause-writes_all g c =
    let o = c.loop-done.invariant.opened in
    writes_done o (advanced c.advance.new.self o c.in-Ok-false.field-0-test c.in-Ok-false.ensures.opens)
    c.loop-done.done refl c.loop-done.invariant.count

pub returns-in-Err-clause-writes_all : goal.returns-in-Err-clause-writes_all
returns-in-Err-clause-writes_all g c =
    failed_writes c.advance.new.self c.in-Err.fault c.loop-done.invariant.opened c.in-Err.ensures.opens
    c.in-Err.ensures.lost

pub returns-in-Err-clause-ends : goal.returns-in-Err-clause-ends
returns-in-Err-clause-ends g c =
    failed_ends c.advance.new.self c.in-Err.fault c.loop-done.invariant.opened c.in-Err.ensures.opens

pub loop-done-preserved : goal.loop-done-preserved
loop-done-preserved g c =
    let o = c.loop-done.invariant.opened in
    let adv = advanced c.advance.new.self o c.in-Ok-true.field-0-test c.in-Ok-true.ensures.opens in
    record {
      opened = rw c.text-in-Ok.ensures.text
          (opened_more o adv (rw c.text.ensures.text at c.text.ensures.len)
          (rw c.text.ensures.text at c.in-Ok.ensures.text));
      count = omega (arith, c.loop-done.invariant.count, o.index, adv.keeps.1);
      reads = search rules;
      writes = search rules;
    }

pub returns-in-Err-write_all-clause-writes_all : goal.returns-in-Err-write_all-clause-writes_all
returns-in-Err-write_all-clause-writes_all g c =
    let o = c.loop-done.invariant.opened in
    writes_write o (advanced c.advance.new.self o c.in-Ok-true.field-0-test c.in-Ok-true.ensures.opens)
    (g.W.Sink.taken c.write_all.new.out) (rw c.text.ensures.text at c.in-Err-write_all.ensures.text)

pub returns-in-Err-write_all-clause-ends : goal.returns-in-Err-write_all-clause-ends
returns-in-Err-write_all-clause-ends g c =
    let o = c.loop-done.invariant.opened in
    inr (ends_write o (advanced c.advance.new.self o c.in-Ok-true.field-0-test c.in-Ok-true.ensures.opens)
    (rw c.text.ensures.text at c.in-Err-write_all.ensures.text))
