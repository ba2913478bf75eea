use Rattle.age_file.proofs.Common.{arith, drop, refl, option_map}
use Rattle.age_file.proofs.RangeLemmas.{header_gave, header_missed, header_most, header_named}
use Rattle.age_file.proofs.ranges.header_at.Goals as goal

pub returns-in-Ok-clause-first : goal.returns-in-Ok-clause-first
returns-in-Ok-clause-first g c =
    rw (c.into_parts-dev.ensures.at, c.into_parts-dev.ensures.unchanged)
    (header_gave (λ s. option_map (drop s.at) (g.D.ReadAt.bytes s.dev)) g.D.ReadAt.gave
    (omega (arith, c.max_header.ensures.value, c.max_header.ensures.range))
    (rw c.new-source.ensures refl) c.in-Ok.ensures.verdict)

pub returns-in-Err-clause-misses : goal.returns-in-Err-clause-misses
returns-in-Err-clause-misses g c =
    rw c.of.ensures.fault
    (header_missed c.args.limits.now g.K.Origin.bytes c.in-Err.fault
    (rw (c.new-source.ensures, c.requires.bytes) refl) c.in-Err.ensures.verdict)

pub returns-in-Err-clause-named : goal.returns-in-Err-clause-named
returns-in-Err-clause-named g c = rw c.of.ensures.fault (search (header_named, c.in-Err.ensures.verdict))

pub returns-in-Err-clause-front : goal.returns-in-Err-clause-front
returns-in-Err-clause-front g c =
    rw (c.of.ensures.fault, c.of.ensures.unchanged)
    (header_most (λ s. option_map (drop s.at) (g.D.ReadAt.bytes s.dev)) g.D.ReadAt.gave c.args.limits.now
    g.K.Origin.given (rw c.new-source.ensures refl) c.in-Err.ensures.most c.into_parts-dev-in-Err.ensures.at
    c.into_parts-dev-in-Err.ensures.given)
