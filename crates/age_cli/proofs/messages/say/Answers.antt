use Rattle.age_cli.proofs.ToldLemmas.{says_refusal}
use Rattle.age_cli.specs.Told.{stream_by}
use Rattle.age_cli.proofs.messages.say.Goals as goal

pub returns : goal.returns
returns g c =
    says_refusal (g.D.Display.output c.args.text.now)
    (stream_by g.E.Sink.taken g.E.Sink.failed c.args.err.now c.write_all-in-Err.new.out) c.write_all-in-Err.result
    c.write_all-in-Err.ensures.text c.write_all-in-Err.ensures.count
