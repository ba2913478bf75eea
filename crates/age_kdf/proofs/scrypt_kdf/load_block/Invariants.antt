use Rattle.age_kdf.proofs.Common.{◌≡◌, take, words_of}
use Rattle.age_kdf.proofs.scrypt_kdf.load_block.Given as goal

abbrev pub invariant-words : goal.invariant-words
invariant-words l = take l.i l.words ≡ words_of l.block l.i
