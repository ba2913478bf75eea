use Rattle.age_file.proofs.Common.{rules}
use Rattle.age_file.proofs.FileLemmas.{opens_whole}
use Rattle.age_file.proofs.laws.pair_opens.Goals as goal

pub returns : goal.returns
returns g c = λ limits k stanzas plain b key wraps file.
    opens_whole limits (g.M.I.Identity.meaning (g.M.Matched.the_identity c.args.pair.now)) k stanzas plain b
    (search rules) file
