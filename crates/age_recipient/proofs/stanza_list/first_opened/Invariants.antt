use Rattle.age_recipient.proofs.Common.{◌≡◌, map, drop, decision, decision_from}
use Rattle.age_recipient.proofs.stanza_list.first_opened.Given as goal

abbrev pub invariant-loop-stanza : goal.invariant-loop-stanza
invariant-loop-stanza g l =
    decision_from l.so_far (drop l.stanza-index (map (g.O.Opener.gives l.opener) l.stanzas))
    ≡ decision (map (g.O.Opener.gives l.opener) l.stanzas)
