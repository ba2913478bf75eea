use Rattle.age_file.proofs.Common.{◌∙◌, ap, arith, inl, inr, answers_by, stream_fault}
use Rattle.age_file.proofs.DecryptLemmas.{found_key, reads_file}
use Rattle.age_file.proofs.RangeLemmas.{file_most, header_fits, header_stays, locked_named, locked_ranges, missed_ranges, payload_front, payload_missed, payload_named}
use Rattle.age_file.proofs.ranges.open_ranges.Goals as goal

pub returns-in-Err-clause-refuses : goal.returns-in-Err-clause-refuses
returns-in-Err-clause-refuses g c =
    let answers = answers_by c.args.identities.now (λ i. (goal.Identity-dyn g (i.vtable, i.value)).meaning i.value) in
    let of = c.in-Err.ensures in
    record {
      misses = missed_ranges c.args.limits.now answers _ _ of.misses;
      named = of.named;
      front = elim of.front [ inl read ↦ inl (rw read tt) | inr most ↦ inr (inr most) ];
      stay = of.left;
      counted = of.counted;
    }

pub returns-in-Err-unlock_header-clause-refuses : goal.returns-in-Err-unlock_header-clause-refuses
returns-in-Err-unlock_header-clause-refuses g c =
    let answers = answers_by c.args.identities.now (λ i. (goal.Identity-dyn g (i.vtable, i.value)).meaning i.value) in
    let of = c.in-Ok.ensures in
    let locked = c.in-Err-unlock_header.ensures in
    rw (c.of.ensures.fault, c.of.ensures.unchanged) (record {
      misses = locked_ranges answers _ _ (λ b is. g.met.D.ReadAt.agrees c.in-Ok.found.dev.now b (of.stay ∙ is)) of.first
          locked.key;
      named = locked_named answers c.in-Ok.found.header _ locked.key;
      front = inr (inr (omega (arith, of.given, header_fits of.first)));
      stay = of.stay;
      counted = rw locked.no_device.0 of.uncounted;
    })

pub returns-in-Ok-open-clause-ranges : goal.returns-in-Ok-open-clause-ranges
returns-in-Ok-open-clause-ranges g c =
    let of = c.in-Ok.ensures in
    let opens = c.in-Ok-open.ensures.opens in
    let begins = rw c.max_chunks.ensures.value at opens.0.2 in (
      opens.1.stay ∙ of.stay,
      record {
        header = c.in-Ok.found.header;
        at = c.in-Ok.found.at;
        first = header_stays opens.2 of.first;
        key = c.in-Ok-unlock_header.key;
        chosen = found_key c.in-Ok-unlock_header.ensures.key;
        begins = begins;
      },
      file_most (g.D.ReadAt.given c.args.dev.now) c.in-Ok-open.reader.chunks of.given begins opens.1,
      opens.0.0,
      opens.0.1,
      opens.3 ∙ of.uncounted,
    )

pub returns-clause-refuses : goal.returns-clause-refuses
returns-clause-refuses g c =
    let answers = answers_by c.args.identities.now (λ i. (goal.Identity-dyn g (i.vtable, i.value)).meaning i.value) in
    let of = c.in-Ok.ensures in
    let refuses = c.in-Err-open.ensures.refuses in
    let unchanged = c.of-in-Err-open.ensures.unchanged ∙ c.into_parts-dev.ensures.unchanged in
    let fault = c.of-in-Err-open.ensures.fault ∙ c.from.ensures
    ∙ ap stream_fault c.into_parts-dev.ensures.fault in
    rw (unchanged, fault) (record {
      misses = payload_missed answers _ _ c.in-Err-open.refused.fault
          (λ b is. g.met.D.ReadAt.agrees c.in-Err-open.refused.device.now b (refuses.1.stay ∙ of.stay ∙ is))
          (header_stays refuses.2 of.first) c.in-Ok-unlock_header.ensures.key
          (rw c.max_chunks.ensures.value at refuses.0);
      named = payload_named c.in-Err-open.refused.fault refuses.3.0;
      front = payload_front g.D.ReadAt.given c.in-Err-open.refused.fault
          (omega (arith, of.given, header_fits of.first)) refuses.3.0;
      stay = refuses.1.stay ∙ of.stay;
      counted = rw of.uncounted at (reads_file (g.D.ReadAt.failed c.in-Ok.found.dev.now) c.in-Err-open.refused.fault
          refuses.3.1);
    })
