use Rattle.age_stream.proofs.Common.{◌≡◌, Err, flow_by, rules, when_none}
use Rattle.age_stream.proofs.SealingLemmas.{seals_finish}
use Rattle.age_stream.proofs.writer.StreamWriter+W.seal_from.Goals as goal

pub returns-clause-seals : goal.returns-clause-seals
returns-clause-seals g c = when_none c.args.self.sealer.fault (λ none.
    seals_finish c.args.self.sealer c.write_from.new.self
    (flow_by g.S.Source.to_come g.S.Source.gave c.args.plain.now c.write_from.new.plain)
    (g.W.Sink.taken c.args.self.out.now) (g.W.Sink.taken c.write_from.new.out) (g.W.Sink.taken c.finish.new.out)
    none c.in_ok-write_from.ensures.takes c.finish.result c.finish.ensures.text)
