use Rattle.age_kdf.proofs.Common.{get_or, arith, sym, ◌∙◌, ap, bit_xor, get_or-chunk, salsa8, length-chunk}
use Rattle.age_kdf.proofs.ListLemmas.{zipped}
use Rattle.age_kdf.proofs.block_mix.mix.Goals as goal

pub returns : goal.returns
returns c =
    let x = c.args.x.now in
    c.salsa8.ensures
    ∙ ap salsa8 (zipped bit_xor x _ c.told-x (length-chunk c.args.at 16 c.args.from.now c.requires)
    c.words.invariant.long
    (λ k h. c.words.invariant.done k (omega arith)
    ∙ ap (bit_xor (get_or x k 0)) (sym (get_or-chunk c.args.at 16 c.args.from.now k 0 h))))
