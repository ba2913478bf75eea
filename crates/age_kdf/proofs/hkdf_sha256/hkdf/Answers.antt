use Rattle.age_kdf.proofs.Common.{rules, sym, ◌∙◌, ap, refl, ◌≡◌, length, [], take_all, append-nil, Bytes, hmac, hkdf_block, hkdf_blocks, IsFed, subst}
use Rattle.age_kdf.proofs.HkdfLemmas.{hkdf_next, length-hkdf_blocks}
use Rattle.age_kdf.proofs.hkdf_sha256.hkdf.Goals as goal

pub each_block-init : goal.each_block-init
unfolding hkdf_block hkdf_blocks
each_block-init c = record { out = sym (take_all _ [] (search rules)); last = refl; len = search rules }

pub each_block-preserved : goal.each_block-preserved
each_block-preserved c =
    let prk = hmac c.args.salt.now c.args.ikm.now in
    let info = c.args.info.now in
    let i = c.each_block.i in
    let prk-is : c.hmac.result ≡ prk =
    c.hmac.ensures ∙ ap (hmac c.args.salt.now) (append-nil c.args.ikm.now) in
    let P : Bytes → Type 0 = λ k. IsFed c.new-extracted.result k [] in
    let fed = subst P prk-is c.new-extracted.ensures in
    let turn = hkdf_next c.put_block.new.out prk info i (length c.each_block.out) c.each_block.invariant.last
    (c.tag_with-block.ensures prk [] fed)
    (c.put_block.ensures (hkdf_blocks prk info i) (length-hkdf_blocks prk info i) c.each_block.invariant.out) in
    record {
      out = rw c.put_block.auto.out turn.out;
      last = take_all 32 _ (search rules) ∙ turn.last;
      len = search rules;
    }
