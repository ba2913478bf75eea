use Rattle.agefile.proofs.Common.{◌≡◌, ◌-◌, length, sealed_chunk_size}
use Rattle.agefile.proofs.DecryptingLemmas.{IsReadTo}
use Rattle.agefile.proofs.decrypting.open_pieces.Given as goal

abbrev pub invariant-pieces : goal.invariant-pieces
invariant-pieces l = record {
  chunk : length l.chunk ≡ sealed_chunk_size;
  read : IsReadTo l.key l.sealed l.fn.out l.out l.at l.len l.number;
}

abbrev pub decreases-pieces : goal.decreases-pieces
decreases-pieces l = length l.sealed - l.at
