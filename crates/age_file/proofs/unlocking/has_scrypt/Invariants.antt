use Rattle.age_file.proofs.Common.{◌≡◌, drop, list_any, is_scrypt}
use Rattle.age_file.proofs.unlocking.has_scrypt.Given as goal

abbrev pub invariant-loop-stanza : goal.invariant-loop-stanza
invariant-loop-stanza l =
    list_any (λ s. is_scrypt s.args) (drop l.stanza-index l.stanzas) ≡ list_any (λ s. is_scrypt s.args) l.stanzas
