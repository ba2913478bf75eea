use Rattle.age_cipher.proofs.Common.{◌≡◌, ℕ, ◌<◌, ◌≤◌, slice_index, bit_xor}
use Rattle.age_cipher.proofs.chacha20.xor_prefix.Given as goal

abbrev pub invariant-loop-k : goal.invariant-loop-k
invariant-loop-k l =
    ((j : ℕ) → j < l.k → slice_index l.piece j ≡ bit_xor (slice_index l.initial.piece j) (slice_index l.stream j))
    × ((j : ℕ) → l.k ≤ j → slice_index l.piece j ≡ slice_index l.initial.piece j)
