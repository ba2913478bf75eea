use Rattle.age_stream.proofs.Common.{arith, ◌∙◌, sym, refl, chunk_size}
use Rattle.age_stream.proofs.SealingLemmas.{one_taken, first_set}
use Rattle.age_stream.proofs.sealing.put_full.Goals as goal

pub returns-in-Ok-clause-puts : goal.returns-in-Ok-clause-puts
returns-in-Ok-clause-puts g c = (
  refl,
  c.in-Ok.ensures.text,
  first_set c.put_sealed.new.bytes (omega (arith, c.put_sealed.ensures.size))
      ∙ sym (one_taken c.args.bytes.now chunk_size (omega (arith, c.requires.size))),
)
