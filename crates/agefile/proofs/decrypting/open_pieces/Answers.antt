use Rattle.agefile.proofs.DecryptingLemmas.{read_ends, read_more, read_stops}
use Rattle.agefile.proofs.decrypting.open_pieces.Goals as goal

pub returns-in-Err : goal.returns-in-Err
returns-in-Err c =
    let left = c.split_at.ensures.back in
    let room = c.split_at_mut-room.ensures in
    search (read_stops, c.pieces.invariant.read, left, room.back, room.front, c.in-Err.ensures.gives)

pub returns-then-left-le-SEALED_CHUNK_SIZE : goal.returns-then-left-le-SEALED_CHUNK_SIZE
returns-then-left-le-SEALED_CHUNK_SIZE c =
    let left = c.split_at.ensures.back in
    let room = c.split_at_mut-room.ensures in
    let last = c.if-left-le-SEALED_CHUNK_SIZE.true in
    search (read_ends, c.pieces.invariant.read, left, room.back, room.front, c.in-Ok.ensures.gives, last)

pub pieces-preserved : goal.pieces-preserved
pieces-preserved c =
    let left = c.split_at.ensures.back in
    let room = c.split_at_mut-room.ensures in
    let more = c.if-left-le-SEALED_CHUNK_SIZE.false in
    let first = c.in-Ok.ensures in
    record {
      chunk = first.chunk;
      read = search (read_more, c.pieces.invariant.read, left, room.back, room.front, first.gives, more, first.size);
    }
