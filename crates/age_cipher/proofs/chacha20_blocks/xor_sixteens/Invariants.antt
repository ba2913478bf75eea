use Rattle.age_cipher.proofs.Common.{◌≡◌, ℕ, ◌+◌, ◌-◌, ◌/◌, ◌%◌, ◌^◌, ◌<◌, ◌≤◌, length, start, stream_byte, lane, IsXored}
use Rattle.age_cipher.proofs.chacha20_blocks.xor_sixteens.Given as goal

abbrev pub invariant-pieces : goal.invariant-pieces
invariant-pieces l = (l.at % 64 ≡ 0) × (l.at ≤ length l.buf)
    × IsXored 0 l.at (stream_byte l.key l.nonce l.counter) l.fn.buf l.buf
    × ((j : ℕ) → j < 16 → lane j l.first ≡ start l.key l.nonce ((l.counter + l.at / 64 + j) % 2 ^ 32))

abbrev pub decreases-pieces : goal.decreases-pieces
decreases-pieces l = length l.buf - l.at
