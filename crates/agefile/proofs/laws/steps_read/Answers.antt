use Rattle.std.proofs.Common.{drop, sym}
use Rattle.agefile.proofs.RunLemmas.{payload_reads}
use Rattle.agefile.proofs.VerdictLemmas.{by_payload, opening_refused}
use Rattle.agefile.proofs.laws.steps_read.Goals as goal

pub returns : goal.returns
returns c = record {
  refused = opening_refused;
  read =
      λ answers b p report text code place v opens run h.
      let (is, from) = by_payload answers b p report v opens h in
      let (plain, (code_is, place_is)) = payload_reads p (drop report.len b) text code place is run in
      rw from (sym plain, (sym code_is, sym place_is));
}
