use Rattle.std.proofs.Common.{ap, ◌++◌, ◌∙◌}
use Rattle.agefile.proofs.SealingLemmas.{seals_end, seals_more}
use Rattle.agefile.proofs.sealing.seal_chunks.Goals as goal

pub returns-then-left-le-CHUNK_SIZE : goal.returns-then-left-le-CHUNK_SIZE
returns-then-left-le-CHUNK_SIZE c =
    let size = c.chunks.auto.out ∙ c.requires in
    let left = c.split_at.ensures.back in
    let room = c.split_at_mut-room.ensures.back in
    let last = c.if-left-le-CHUNK_SIZE.true in
    let joined = ap (λ t. t ++ c.seal_first.new.room) c.split_at_mut-room.ensures.front in
    search (seals_end, c.chunks.invariant, size, left, room, last, c.seal_first.ensures, joined)

pub chunks-preserved : goal.chunks-preserved
chunks-preserved c =
    let left = c.split_at.ensures.back in
    let room = c.split_at_mut-room.ensures.back in
    let more = c.if-left-le-CHUNK_SIZE.false in
    let joined = ap (λ t. t ++ c.seal_first.new.room) c.split_at_mut-room.ensures.front in
    search (seals_more, c.chunks.invariant, left, room, more, c.seal_first.ensures, joined)
