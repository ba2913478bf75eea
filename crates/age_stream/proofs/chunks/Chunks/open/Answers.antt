use Rattle.age_stream.proofs.Common.{arith, inl, refl}
use Rattle.age_stream.proofs.JudgesLastLemmas.{probed}
use Rattle.age_stream.proofs.chunks.Chunks.open.Goals as goal

pub returns-in_default-clause-named : goal.returns-in_default-clause-named
returns-in_default-clause-named g c = inl (refl, refl)

pub returns-in_err-start-clause-probes : goal.returns-in_err-start-clause-probes
returns-in_err-start-clause-probes g c = record {
  stay = c.payload_start.ensures.stay;
  most = omega (arith, c.payload_start.ensures.given);
  last = probed (g.D.ReadAt.found c.payload_start.new.dev) c.args.payload_at c.payload_start.ensures.unread
      c.payload_start.ensures.given;
}
