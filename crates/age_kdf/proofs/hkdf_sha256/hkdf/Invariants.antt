use Rattle.age_kdf.proofs.Common.{◌≡◌, ◌*◌, ◌≤◌, length, take, hmac, hkdf_block, hkdf_blocks}
use Rattle.age_kdf.proofs.hkdf_sha256.hkdf.Given as goal

abbrev pub invariant-each_block : goal.invariant-each_block
invariant-each_block l =
    let prk = hmac l.salt l.ikm in
    record {
      out : take (32 * l.i) l.out ≡ take (length l.out) (hkdf_blocks prk l.info l.i);
      last : take l.block_len l.block ≡ hkdf_block prk l.info l.i;
      len : l.block_len ≤ 32;
    }
