use Rattle.age_stream.proofs.Common.{arith, rules, ◌≡◌, ◌+◌, ◌-◌, ◌*◌, ◌/◌, ◌<◌, ◌≤◌, ◌∙◌, ap, refl, inl, inr, length, Some, chunk_size, first_to_open, sealed_span}
use Rattle.age_stream.proofs.RangeLemmas.{byte_stays, kept_opens, rest_on, verified_on}
use Rattle.age_stream.proofs.chunks.Chunks.read_range.Goals as goal

pub returns : goal.returns
returns g c =
    let inv = c.loop-done.invariant in
    let end : c.loop-done.done ≡ c.range_len-end.result = omega (arith, inv.within, c.loop-done-test.false) in
    let is = rw c.layout-layout.ensures at c.range_len-end.ensures in
    record {
      sound = inv.sound;
      reads = record {
        stay = inv.stay;
        stays_given = inv.kept;
        same = inv.layout;
        number = is;
        filled = record { bytes = rw end at inv.bytes; rest = rw end at inv.rest };
        stop = tt;
        count = inv.failed;
        kept_chunk = λ some. grind (arith, inv.stage, inv.below, some, end);
        none = tt;
        rises = inv.rises;
        counts = λ some. grind (arith, inv.stage, inv.below, inv.counts, some, end);
        opened = λ last fits. grind (arith, inv.stage, fits, end, is, inv.opened);
        given = λ last fits. grind (arith, inv.stage, fits, end, is, inv.given);
        empty = λ none. elim inv.stage [
          | inl z ↦ (z.6, z.7)
          | inr z ↦ absurd (omega (arith, z.0, none, end, is))
        ];
      };
    }

pub returns-in-Err : goal.returns-in-Err
returns-in-Err g c =
    let inv = c.loop-done.invariant in
    let s = c.args.self.now in
    let h = c.hold-held.new.self in
    let at = c.args.at in
    let i = c.loop-done.i in
    let pos = inv.pos c.loop-done-test.true in
    let done : c.loop-done.done ≡ chunk_size * i - at = grind (arith, inv.stage, pos) in
    let is = rw c.layout-layout.ensures at c.range_len-end.ensures in
    let more = c.loop-done-test.true in
    let touched : chunk_size * i < s.layout.plain = omega (arith, pos, more, is) in
    let more_given = rw inv.layout at c.hold-held.ensures.given in
    let opened : h.opened ≤ s.opened + (i + 1 - first_to_open s.index at) =
    grind (arith, inv.stage, inv.opened, c.hold-held.ensures.opened) in
    let given : g.D.ReadAt.given c.hold-held.new.dev
    ≤ g.D.ReadAt.given c.args.dev.now + sealed_span s.layout (first_to_open s.index at) (i + 1) =
    grind (arith, inv.stage, inv.given, more_given, touched, s.layout.covers) in
    record {
      sound = c.hold-held.ensures.sound;
      reads = record {
        stay = c.hold-held.ensures.stay ∙ inv.stay;
        stays_given = λ at byte was. c.hold-held.ensures.stays_given at byte (inv.kept at byte was);
        same = c.hold-held.ensures.same ∙ inv.layout;
        number = tt;
        filled = tt;
        stop = record {
          some = omega (arith, more, is);
          chunk = i;
          from = grind (arith, inv.stage);
          to = omega (arith, pos, more, is);
          filled = record {
            bytes = λ k lt. byte_stays (g.D.ReadAt.gave c.loop-done.dev) (g.D.ReadAt.gave c.hold-held.new.dev) s.layout
                (at + k) _ c.hold-held.ensures.stays_given (inv.bytes k (omega (arith, done, lt)));
            rest = rw done at inv.rest;
          };
          lost = rw inv.layout at c.in-Err.ensures.lost;
          counts = grind (arith, inv.stage, inv.counts, c.hold-held.ensures.counts);
        };
        count = rw inv.failed at c.in-Err.ensures.count;
        kept_chunk = tt;
        none = c.in-Err.ensures.none;
        rises = omega (arith, inv.rises, c.hold-held.ensures.rises);
        counts = tt;
        opened = λ last fits. omega (arith, pos, more, is, fits, opened);
        given = λ last fits. omega (arith, pos, more, is, fits, given);
        empty = λ none. absurd (omega (arith, more, is, none));
      };
    }

pub loop-done-init : goal.loop-done-init
loop-done-init g c = record {
  stay = refl;
  kept = λ at byte was. was;
  layout = refl;
  len = search rules;
  within = omega arith;
  skip = omega arith;
  pos = λ lt. omega arith;
  below = omega arith;
  rest = search rules;
  sound = c.requires.sound;
  bytes = λ k lt. absurd (omega (arith, lt));
  counts = omega arith;
  rises = omega arith;
  opened = omega arith;
  given = omega arith;
  failed = refl;
  stage = inl (refl, refl, refl, refl, refl, refl, refl, refl);
}

pub loop-done-preserved : goal.loop-done-preserved
loop-done-preserved g c =
    let inv = c.loop-done.invariant in
    let s = c.args.self.now in
    let h = c.hold-held.new.self in
    let i = c.loop-done.i in
    let skip = c.loop-done.skip in
    let done = c.loop-done.done in
    let at = c.args.at in
    let n = c.put-n.result in
    let t = c.text.result.now in
    let pos : at + done ≡ chunk_size * i + skip = inv.pos c.loop-done-test.true in
    let more = c.loop-done-test.true in
    let is = rw c.layout-layout.ensures at c.range_len-end.ensures in
    let touched : chunk_size * i < s.layout.plain = omega (arith, pos, more, is) in
    let lies : h.layout ≡ s.layout = c.hold-held.ensures.same ∙ inv.layout in
    let len = rw lies at c.text.ensures.len in
    let count = c.put-n.ensures.count in
    let some : 0 < n = omega (arith, count, len, more, pos, is, inv.skip) in
    let part : skip + n ≤ length t = omega (arith, count, len, some) in
    let inside : done + n ≤ c.range_len-end.result = omega (arith, count, more) in
    let room : done + n ≤ length c.loop-done.buf = omega (arith, inside, is, inv.len) in
    let fits : done ≤ length c.loop-done.buf = omega (arith, room) in
    let size : length t ≤ chunk_size = omega (arith, len) in
    let next : at + (done + n) ≤ chunk_size * (i + 1) = omega (arith, pos, part, size) in
    let next-chunk : at / chunk_size < i + 1 = grind (arith, inv.stage) in
    let more_given = rw inv.layout at c.hold-held.ensures.given in
    record {
      stay = c.hold-held.ensures.stay ∙ inv.stay;
      kept = λ at byte was. c.hold-held.ensures.stays_given at byte (inv.kept at byte was);
      layout = lies;
      sound = c.hold-held.ensures.sound;
      len = c.put-n.auto.buf ∙ inv.len;
      within = inside;
      skip = omega arith;
      pos = λ lt. omega (arith, lt, count, len, pos, is);
      below = omega (arith, next);
      rest = rest_on c.loop-done.buf c.put-n.new.buf c.args.buf.now done n inv.rest c.put-n.ensures.rest;
      bytes = verified_on (g.D.ReadAt.gave c.loop-done.dev) (g.D.ReadAt.gave c.hold-held.new.dev) s.layout t
          c.loop-done.buf c.put-n.new.buf at done i skip n c.hold-held.ensures.stays_given pos fits part size
          (kept_opens h s.layout i t lies c.in_default.ensures.kept_chunk c.text.ensures.text
          c.hold-held.ensures.sound) inv.bytes c.put-n.ensures.prefix;
      counts = grind (arith, inv.stage, inv.counts, c.hold-held.ensures.counts);
      rises = omega (arith, inv.rises, c.hold-held.ensures.rises);
      opened = grind (arith, inv.stage, inv.opened, c.hold-held.ensures.opened);
      given = grind (arith, inv.stage, inv.given, more_given, touched, s.layout.covers);
      failed = c.in_default.ensures.count ∙ inv.failed;
      stage = inr (
        omega (arith, some),
        refl,
        next-chunk,
        omega (arith, pos, some),
        c.in_default.ensures.kept_chunk ∙ ap Some (omega arith),
      );
    }
