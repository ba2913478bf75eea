use Rattle.agefile.proofs.Common.{◌≡◌, map, take, list_text, stanza_summary}
use Rattle.agefile.proofs.listing.listing_of.Given as goal

abbrev pub invariant-loop-stanza : goal.invariant-loop-stanza
invariant-loop-stanza l = record {
  sizes : l.sizes.items ≡ map stanza_summary (take l.stanza-index l.found);
  text : l.text.items ≡ list_text (take l.stanza-index l.found);
}
