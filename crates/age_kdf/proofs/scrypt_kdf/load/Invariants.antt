use Rattle.age_kdf.proofs.Common.{◌≡◌, ◌*◌, [], take, Bytes, pbkdf2_blocks, words_of, IsFed}
use Rattle.age_kdf.proofs.scrypt_kdf.load.Given as goal

abbrev pub invariant-each_block : goal.invariant-each_block
invariant-each_block l = (pass salt : Bytes) → IsFed l.keyed pass [] → IsFed l.salted pass salt
    → take (8 * l.i) l.words ≡ words_of (pbkdf2_blocks pass salt 1 l.i) (8 * l.i)
