-- The parameters of scrypt (RFC 7914, sections 2 and 6).
use Rattle.std.specs.Prelude.{ℕ, ◌+◌, ◌*◌, ◌^◌, ◌<◌, ◌≤◌}

-- parameters as a caller sees them: N is 2 ^ log_n, r the block size, p the parallelization
pub record Costs : Type 0 where
  pub log_n : ℕ
  pub r : ℕ
  pub p : ℕ

-- the parameters accepted: N is above 1 and below 2 ^ (16 * r), as the RFC requires, log_n is at
-- most 30, and r and p are 1 to 32
pub record InRange (log_n r p : ℕ) : Type 0 where
  pub log_low : 1 ≤ log_n
  pub log_high : log_n ≤ 30
  pub log_block : log_n < 16 * r
  pub r_low : 1 ≤ r
  pub r_high : r ≤ 32
  pub p_low : 1 ≤ p
  pub p_high : p ≤ 32

-- the number of words of work space: N rows of 32 * r words for the table, one for each of the p
-- parts, and two more
abbrev pub work_words : Costs → ℕ
work_words c = 32 * c.r * (2 ^ c.log_n + c.p + 2)
