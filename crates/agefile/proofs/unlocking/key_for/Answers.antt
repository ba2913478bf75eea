use Rattle.std.proofs.Common.{◌≡◌, [], ◌∷◌, rules}
use Rattle.agefile.proofs.unlocking.key_for.Goals as goal

pub returns : goal.returns
returns g c =
    let one : c.in_ok-identities.identities.items ≡ c.args.identity ∷ [] = search rules in
    rw (c.as_slice.ensures.value, one) at c.find_key.ensures
