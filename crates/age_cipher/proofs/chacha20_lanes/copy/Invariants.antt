use Rattle.age_cipher.proofs.Common.{◌≡◌, ℕ, ◌<◌, [], length, slice_index_or}
use Rattle.age_cipher.proofs.chacha20_lanes.copy.Given as goal

abbrev pub invariant-words : goal.invariant-words
invariant-words g l = (length l.state ≡ 16)
    × ((k : ℕ) → k < l.k → slice_index_or l.state k [] ≡ slice_index_or l.first k [])
