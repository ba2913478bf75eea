use Rattle.round_trip.proofs.Common.{◌∙◌, Makes}
use Rattle.round_trip.proofs.CallLemmas.{answers_first, calls_more, rest_more}
use Rattle.round_trip.proofs.ranges.make_calls.Goals as goal

pub loop-call-preserved : goal.loop-call-preserved
loop-call-preserved g c =
    let inv = c.loop-call.invariant in
    let old = c.args.calls.now in
    let i = c.loop-call.call-index in
    let first = c.args.reader.now.dev.now in
    let s = c.args.reader.now.chunks in
    let reads = c.make.ensures.reads in
    record {
      same_reference = c.make.ensures.same_reference ∙ inv.same_reference;
      stay = reads.stay ∙ inv.stay;
      same = reads.same ∙ inv.same;
      rest = rest_more old c.loop-call.calls i c.make.new.call inv.rest;
      calls = calls_more (Makes g.D.ReadAt.bytes g.D.ReadAt.given g.D.ReadAt.failed g.D.ReadAt.gave first s) (first, s)
          old c.loop-call.calls i c.call-item.result c.loop-call-test.true c.loop-call.auto.calls inv.rest inv.calls
          (record {
            answers = answers_first s _ _ (g.met.D.ReadAt.agrees c.make.new.reader.dev.now) inv.stay inv.same
                c.make.ensures.len reads;
            reads = reads;
          });
    }
