use Rattle.age_cipher.proofs.Common.{◌-◌, ◌*◌, lane_byte, IsXored}
use Rattle.age_cipher.proofs.chacha20_blocks.xor_lanes.Given as goal

abbrev pub invariant-fours : goal.invariant-fours
invariant-fours g l = IsXored l.fn.at (256 * l.q) (λ j. lane_byte l.fn.words (j - l.fn.at)) l.fn.buf l.buf
