use Rattle.agefile.proofs.Common.{◌≤◌, ◌∙◌, ap, arith, length, subst, opened_len, plain_len_at_most}
use Rattle.agefile.proofs.SizeLemmas.{verdict_at_most}
use Rattle.agefile.proofs.sizes.agefile_plain_len_at_most.Goals as goal

pub returns-clause-suffices : goal.returns-clause-suffices
returns-clause-suffices c answers b verdict len is =
    let most = subst (λ n. length verdict.plaintext ≤ plain_len_at_most n) len (verdict_at_most answers b verdict is) in
    let same = c.opened_len.ensures ∙ ap opened_len c.saturating_sub.ensures in
    omega (arith, most, same)
