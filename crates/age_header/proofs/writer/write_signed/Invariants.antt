use Rattle.age_header.proofs.Common.{◌≡◌, ◌++◌, drop, flat_map, codes, signed_text, stanza_text}
use Rattle.age_header.proofs.DeviceLemmas.{Done}
use Rattle.age_header.proofs.writer.write_signed.Given as goal

abbrev pub invariant-loop-stanza : goal.invariant-loop-stanza
invariant-loop-stanza g l = record {
  written : Done (g.W.Sink.taken l.fn.out) (g.W.Sink.taken l.out) (signed_text l.stanzas)
      (flat_map stanza_text (drop l.stanza-index l.stanzas) ++ codes "---");
  count : g.W.Sink.failed l.out ≡ g.W.Sink.failed l.fn.out;
}
