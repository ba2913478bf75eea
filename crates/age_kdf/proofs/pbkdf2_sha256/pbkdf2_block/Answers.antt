use Rattle.age_kdf.proofs.Common.{◌∙◌, ap, arith, [], append-nil, hmac, pbkdf2_round}
use Rattle.age_kdf.proofs.Pbkdf2Lemmas.{first_sum, next_sum}
use Rattle.age_kdf.proofs.pbkdf2_sha256.pbkdf2_block.Goals as goal

pub rounds-init : goal.rounds-init
unfolding pbkdf2_round
rounds-init c = grind (arith, first_sum)

pub rounds-preserved : goal.rounds-preserved
rounds-preserved c pass salt keyed salted =
    let before = c.rounds.invariant pass salt keyed salted in
    let next = c.tag_with-last-in-rounds.ensures pass [] keyed ∙ ap (hmac pass) (append-nil c.rounds.last) in
    next_sum pass _ c.rounds._round before.sum before.last next c.xor_block.ensures
