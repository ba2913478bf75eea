use Rattle.age_stream.proofs.Common.{arith, length, ◌≡◌, ◌+◌, ◌≤◌, ◌∙◌}
use Rattle.age_stream.proofs.ReadAtLemmas.{read_on}
use Rattle.age_stream.proofs.loading.read_full.Goals as goal

pub loop-got-preserved : goal.loop-got-preserved
loop-got-preserved g c =
    let old = c.loop-got.invariant in
    let got = c.loop-got.got in
    let n = c.in_ok-n.n in
    let same : length c.read_after.new.buf ≡ length c.loop-got.buf = c.read_after.auto.buf in
    let within : got + n ≤ c.args.end = c.in_ok-n.ensures.within in
    let room : got + n ≤ length c.read_after.new.buf = omega (arith, within, same, old.len, c.requires.room) in
    record {
      stay = c.read_after.ensures.stay ∙ old.stay;
      len = same ∙ old.len;
      within = within;
      found = c.read_after.ensures.found ∙ old.found;
      kept = λ at byte was. c.read_after.ensures.stays_given at byte (old.kept at byte was);
      read = read_on (g.D.ReadAt.gave c.loop-got.dev) (g.D.ReadAt.gave c.read_after.new.dev) c.args.at got n
          c.loop-got.buf c.read_after.new.buf room same c.read_after.ensures.prefix
          c.read_after.ensures.stays_given old.read c.in_ok-n.ensures.read;
      given = omega (arith, c.in_ok-n.ensures.given, old.given);
      failed = c.in_ok-n.ensures.count ∙ old.failed;
    }
