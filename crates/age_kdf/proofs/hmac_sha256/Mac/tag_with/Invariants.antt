use Rattle.age_kdf.proofs.Common.{◌++◌, take, Bytes, IsFed, flat_map}
use Rattle.age_kdf.proofs.hmac_sha256.Mac.tag_with.Given as goal

abbrev pub invariant-parts : goal.invariant-parts
invariant-parts l = (key text : Bytes) → IsFed l.self key text
    → IsFed l.mac key (text ++ flat_map (λ p. p.now) (take l.part-index l.parts))
