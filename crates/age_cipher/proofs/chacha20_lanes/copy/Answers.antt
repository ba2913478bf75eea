use Rattle.age_cipher.proofs.Common.{[], slice_index_or, arith, sym, ◌∙◌, fill_by_all}
use Rattle.age_cipher.proofs.LaneLemmas.{sixteen_long}
use Rattle.age_cipher.proofs.chacha20_lanes.copy.Goals as goal

pub returns : goal.returns
returns g c =
    fill_by_all (λ k. slice_index_or c.args.first.now k []) c.words.state 16 [] c.words.invariant.0
    (λ k h. c.words.invariant.1 k (omega arith)) ∙ sym (sixteen_long c.args.first.now c.told-first)
