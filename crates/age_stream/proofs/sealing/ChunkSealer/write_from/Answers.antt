use Rattle.age_stream.proofs.Common.{rules, ◌∙◌, sym, with_items, written_all}
use Rattle.age_stream.proofs.sealing.ChunkSealer.write_from.Goals as goal
