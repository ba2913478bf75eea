use Rattle.age_file.proofs.Common.{◌≡◌, rules, Err}
use Rattle.age_file.proofs.GatheredLemmas.{refused_first}
use Rattle.age_file.proofs.new_header.gather_stanzas.Goals as goal

pub returns-in_err-stanzas : goal.returns-in_err-stanzas
returns-in_err-stanzas g c =
    let is : c.from_residual.result ≡ Err c.in_err-stanzas.field-0.0 = search rules in
    rw is (search (refused_first, c.in_err-stanzas.ensures))
