use Rattle.age_kdf.proofs.Common.{◌≡◌, ◌*◌, ◌^◌, take, drop, mixed_parts}
use Rattle.age_kdf.proofs.scrypt_kdf.mix_parts.Given as goal

abbrev pub invariant-each_part : goal.invariant-each_part
invariant-each_part l = record {
  done : take (l.size * l.i) l.parts ≡ mixed_parts l.r (2 ^ l.log_n) l.fn.parts l.i;
  rest : drop (l.size * l.i) l.parts ≡ drop (l.size * l.i) l.fn.parts;
}
