use Rattle.age_stream.proofs.Common.{arith, rules, ◌≡◌, ◌+◌, ◌-◌, ◌*◌, ◌/◌, ◌≤◌, ◌∙◌, ap, refl, sym, inl, inr, length-take-le, take, Ok, Err, chunk_len, chunk_size, sealed_chunk_size}
use Rattle.age_stream.proofs.JudgesLastLemmas.{judged, last_opens, open_len}
use Rattle.age_stream.proofs.loading.load_last.Goals as goal

pub returns-then-last-max-clause-fails : goal.returns-then-last-max-clause-fails
returns-then-last-max-clause-fails g c =
    inr (inl (omega (arith, c.saturating_sub.ensures), refl))

pub returns : goal.returns
returns g c =
    let last = c.saturating_sub.result / sealed_chunk_size in
    let end = c.args.sealed - sealed_chunk_size * last in
    let n = c.in_ok-len.len in
    let buf = c.read_full.new.buf in
    let short : end ≤ sealed_chunk_size = omega arith in
    let room = c.read_full.auto.buf ∙ c.requires.room in
    let (is, _) = open_len _ _ _ buf c.open_chunk.new.bytes room short c.in_ok-len.ensures.text.0
    c.in_ok-len.ensures.text.1 in
    let text : n ≡ chunk_len (chunk_size * last + n) (last + 1 - 1) = omega (arith, is, short) in
    record {
      stay = c.read_full.ensures.stay;
      found = c.read_full.ensures.found;
      stays_given = c.read_full.ensures.stays_given;
      layout = (refl, refl, omega (arith, is));
      judges = judged (g.D.ReadAt.gave c.read_full.new.dev) c.args.key c.args.max c.args.first c.args.sealed last end
          buf (ap (λ k. k / sealed_chunk_size) c.saturating_sub.ensures) refl room c.in-Ok.ensures.read
          (c.in_ok-len.ensures.text.0 ∙ ap (λ k. Ok (take k c.open_chunk.new.bytes)) text);
      opens = last_opens c.args.max last end buf c.open_chunk.new.bytes refl c.in-Ok.ensures.read
          (length-take-le end buf (omega (arith, room, short)) ∙ sym is) c.in_ok-len.ensures.text.0
          (omega (arith, is, short));
      fails = tt;
      named = tt;
      given = omega (arith, c.read_full.ensures.given, c.saturating_sub.ensures);
      count = c.in-Ok.ensures.count;
    }

pub invariant_of-result : goal.invariant_of-result
invariant_of-result g c =
    let last = c.saturating_sub.result / sealed_chunk_size in
    let end = c.args.sealed - sealed_chunk_size * last in
    let short : end ≤ sealed_chunk_size = omega arith in
    let (is, some) = open_len _ _ _ c.read_full.new.buf c.open_chunk.new.bytes
    (c.read_full.auto.buf ∙ c.requires.room) short c.in_ok-len.ensures.text.0 c.in_ok-len.ensures.text.1 in
    record {
      fits = omega (arith, is, c.requires.fits);
      some = omega arith;
      covers = omega (arith, is, short);
      tight = λ lt. omega (arith, some (omega (arith, lt)));
    }
