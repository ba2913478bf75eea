use Rattle.age_cipher.proofs.Common.{◌≡◌, ℕ, ◌<◌, [], length, slice_index, slice_index_or}
use Rattle.age_cipher.proofs.chacha20_lanes.spread.Given as goal

abbrev pub invariant-words : goal.invariant-words
invariant-words g l = (length l.first ≡ 16)
    × ((k j : ℕ) → k < l.k → j < g.row.N → slice_index (slice_index_or l.first k []) j ≡ slice_index l.state k)
