use Rattle.age_kdf.proofs.Common.{◌++◌, take, Bytes, bytes_of, IsFed}
use Rattle.age_kdf.proofs.scrypt_kdf.feed_words.Given as goal

abbrev pub invariant-loop-word : goal.invariant-loop-word
invariant-loop-word l = (key m : Bytes) → IsFed l.fn.mac key m
    → IsFed l.mac key (m ++ bytes_of (take l.word-index l.words))
