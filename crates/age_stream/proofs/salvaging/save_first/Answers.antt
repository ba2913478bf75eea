use Rattle.age_stream.proofs.Common.{arith, sealed_chunk_size}
use Rattle.age_stream.proofs.OpeningLemmas.{drop_same}
use Rattle.age_stream.proofs.salvaging.save_first.Goals as goal

pub returns-clause-rest : goal.returns-clause-rest
returns-clause-rest c =
    drop_same _ sealed_chunk_size c.save_piece-saved.new.bytes c.args.bytes.now (omega arith)
    c.save_piece-saved.ensures.rest
