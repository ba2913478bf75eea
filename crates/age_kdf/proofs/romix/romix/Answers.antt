use Rattle.age_kdf.proofs.Common.{◌≡◌, ◌*◌, ◌^◌, length, arith, ◌∙◌, rules, romix_after}
use Rattle.age_kdf.proofs.RoMixLemmas.{look_turn}
use Rattle.age_kdf.proofs.romix.romix.Goals as goal

pub look-init : goal.look-init
unfolding romix_after
look-init c = search rules

pub look-preserved : goal.look-preserved
look-preserved c =
    let long : length c.look.x ≡ 32 * c.args.r = c.look.auto.x ∙ c.fill.auto.x ∙ c.requires.x in
    let end : c.fill.i ≡ 2 ^ c.args.log_n = omega (arith, c.row_count-n.ensures) in
    look_turn c.look._turn c.args.x.now c.fill.table
    c.requires.r.0 (omega (arith, c.requires.log_n)) long c.row_count-n.ensures c.look.invariant
    (λ j h. c.fill.invariant.table j (rw end h))
    c.xor_row.ensures
    (c.copy_from_slice-in-look.ensures.after ∙ c.block_mix-in-look.ensures)
