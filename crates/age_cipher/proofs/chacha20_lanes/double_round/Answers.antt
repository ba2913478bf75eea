use Rattle.age_cipher.proofs.Common.{sym}
use Rattle.age_cipher.proofs.LaneLemmas.{double_parts, sixteen_long}
use Rattle.age_cipher.proofs.chacha20_lanes.double_round.Goals as goal

pub returns : goal.returns
returns g c = λ j inside. rw (sixteen_long c.args.s.now c.told-s) (sym
    (double_parts _ _ _ _ _ _ _ _ _ _ _ _ _ _ _ _ _ _ _ _ _ _ _ _
    (c.quarter_round.ensures j inside) (c.quarter_round-2.ensures j inside)
    (c.quarter_round-3.ensures j inside) (c.quarter_round-4.ensures j inside)
    (c.quarter_round-5.ensures j inside) (c.quarter_round-6.ensures j inside)
    (c.quarter_round-7.ensures j inside) (c.quarter_round-8.ensures j inside)))
