use Rattle.age_file.proofs.Common.{sym, starts_reader}
use Rattle.age_file.proofs.DecryptLemmas.{found_key}
use Rattle.age_file.proofs.decryptor.Decryptor+S.unlock.Goals as goal

pub returns-in-Ok-start-clause-starts : goal.returns-in-Ok-start-clause-starts
returns-in-Ok-start-clause-starts g c = (
  c.in-Ok.key,
  found_key c.in-Ok.ensures.key,
  rw (sym c.max_chunks.ensures.value) (starts_reader g.S.Source.to_come g.S.Source.gave g.S.Source.failed c.in-Ok.key
      c.max_chunks.result c.args.self.input.now c.in-Ok-start.opener c.over.ensures.unchanged
      c.over.ensures.opener c.in-Ok-start.ensures.starts c.in-Ok-start.ensures.gave c.in-Ok-start.ensures.count),
)
