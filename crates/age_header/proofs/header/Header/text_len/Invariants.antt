use Rattle.age_header.proofs.Common.{◌≡◌, ◌+◌, ◌-◌, ◌^◌, min, length, take, flat_map, stanza_text}
use Rattle.age_header.proofs.header.Header.text_len.Given as goal

abbrev pub invariant-loop-stanza : goal.invariant-loop-stanza
invariant-loop-stanza l = l.len ≡ min (70 + length (flat_map stanza_text (take l.stanza-index l.stanza-items)))
    (2 ^ 64 - 1)
