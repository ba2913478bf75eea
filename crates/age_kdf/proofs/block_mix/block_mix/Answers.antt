use Rattle.age_kdf.proofs.Common.{◌≡◌, ◌+◌, ◌*◌, arith, rules, ◌∙◌, ap, x_after, evens, odds}
use Rattle.age_kdf.proofs.BlockMixLemmas.{mixed_next, block_written, evens_next, odds_next}
use Rattle.age_kdf.proofs.block_mix.block_mix.Goals as goal

pub pairs-init : goal.pairs-init
unfolding x_after evens odds
pairs-init c = search rules

pub pairs-preserved : goal.pairs-preserved
pairs-preserved c =
    let r = c.args.r in
    let b = c.args.from.now in
    let i = c.pairs.i in
    let first : c.mix.new.x ≡ x_after r b (2 * i + 1) =
    mixed_next r b (2 * i) (32 * i) (2 * i + 1) c.pairs.invariant.x (omega arith) (omega arith) c.mix.ensures in
    let second : c.mix-in-pairs.new.x ≡ x_after r b (2 * i + 2) =
    mixed_next r b (2 * i + 1) (32 * i + 16) (2 * i + 2) first (omega arith) (omega arith) c.mix-in-pairs.ensures in
    let two : 2 * i + 2 ≡ 2 * (i + 1) = omega arith in
    record {
      x = second ∙ ap (x_after r b) two;
      even = evens_next r b i (block_written _ _ (16 * i) _ c.pairs.invariant.even (search rules)
          (omega arith) (omega (arith, c.pairs.auto.even, c.split_at_mut-even.ensures.front_len)))
          (c.copy_from_slice-in-pairs.ensures.after ∙ first);
      odd = odds_next r b i (block_written _ _ (16 * i) _ c.pairs.invariant.odd (search rules)
          (omega arith) (omega (arith, c.pairs.auto.odd, c.split_at_mut-even.ensures.back_len)))
          (c.copy_from_slice-in-pairs-2.ensures.after ∙ second);
    }
