use Rattle.age_kdf.proofs.Common.{◌≡◌, ◌*◌, [], length, take, Bytes, pbkdf2_blocks, IsFed}
use Rattle.age_kdf.proofs.pbkdf2_sha256.fill.Given as goal

abbrev pub invariant-each_block : goal.invariant-each_block
invariant-each_block l = (pass salt : Bytes) → IsFed l.keyed pass [] → IsFed l.salted pass salt
    → take (32 * l.i) l.out ≡ take (length l.out) (pbkdf2_blocks pass salt l.rounds l.i)
