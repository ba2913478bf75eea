use Rattle.age_kdf.proofs.Common.{◌≡◌, ◌+◌, ◌++◌, [], w32, to_be_bytes, Bytes, pbkdf2_sum, pbkdf2_round, IsFed}
use Rattle.age_kdf.proofs.pbkdf2_sha256.pbkdf2_block.Given as goal

abbrev pub invariant-rounds : goal.invariant-rounds
invariant-rounds l = (pass salt : Bytes) → IsFed l.keyed pass [] → IsFed l.salted pass salt →
    let first = salt ++ to_be_bytes w32 l.number in
    record {
      sum : l.sum ≡ pbkdf2_sum pass first (l._round + 1);
      last : l.last ≡ pbkdf2_round pass first l._round;
    }
