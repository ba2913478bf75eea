use Rattle.age_kdf.proofs.Common.{◌≡◌, ℕ, ◌<◌, ◌*◌, ◌^◌, take, drop, v_at, romix_after}
use Rattle.age_kdf.proofs.romix.romix.Given as goal

abbrev pub invariant-fill : goal.invariant-fill
invariant-fill l = record {
  x : l.x ≡ v_at l.r l.fn.x l.i;
  table : (j : ℕ) → j < l.i → take l.size (drop (l.size * j) l.table) ≡ v_at l.r l.fn.x j;
}

abbrev pub invariant-look : goal.invariant-look
invariant-look l = l.x ≡ romix_after l.r (2 ^ l.log_n) l.fn.x l._turn
