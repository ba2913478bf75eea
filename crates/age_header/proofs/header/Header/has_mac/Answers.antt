use Rattle.age_header.proofs.Common.{◌∙◌, sym}
use Rattle.age_header.proofs.MacLemmas.{none_differ}
use Rattle.age_header.proofs.header.Header.has_mac.Goals as goal

pub returns : goal.returns
returns c =
    rw (← c.self.view_is) (none_differ 0 c.self.inside.mac c.args.mac.now (c.self.invariant.mac_len ∙ sym c.told-mac))
