use Rattle.round_trip.proofs.Common.{◌≡◌, ◌∙◌, ◌≤◌, ◌-◌, ◌++◌, ℕ, None, take, drop, length, min, sym, ap, ap₂, arith, inl, inr, none-some, take-append-drop, length-take-le}
use Rattle.round_trip.proofs.TripLemmas.{never_err}
use Rattle.round_trip.proofs.ranges.part_of.Goals as goal

pub returns-clause-part : goal.returns-clause-part
returns-clause-part g c = λ plain is.
    let n : ℕ = c.in_ok-read_range.field-0 in
    let b = c.args.file.now in
    let new = c.read_range.new.buf in
    let s = c.in-Ok.reader.chunks in
    let reads = c.in_ok-read_range.ensures.reads in
    let begun = c.in-Ok.ensures.ranges.1 in
    let told = c.in-Ok.ensures.ranges.0 ∙ c.new-dev.ensures.bytes in
    let room : n ≤ length new = omega (arith, reads.number, c.read_range.auto.buf) in
    let opened = c.given_is_known.ensures.opened c.in-Ok.reader.dev.now b _ _ _ s told begun.begins in
    let has = c.given_is_known.ensures.slice c.read_range.new.self.dev.now b c.args.buf.now new s.layout c.args.at n
    (reads.stay ∙ told) opened.there room reads.filled in
    let len = c.file_is_sliced.ensures.len c.in-Ok.reader.dev.now c.args.limits.now _ b plain s told is begun in
    let part = c.file_is_sliced.ensures.slice c.in-Ok.reader.dev.now c.args.limits.now _ b plain (take n new) s c.args.at told is begun
    has ∙ ap (λ k. take k (drop c.args.at plain)) (length-take-le n new room) in (
      reads.number ∙ ap (λ p. min (length c.args.buf.now) (p - c.args.at)) len,
      sym (take-append-drop n new) ∙ ap₂ (λ x y. x ++ y) part reads.filled.rest,
    )

pub returns-in-Err-clause-lost : goal.returns-in-Err-clause-lost
returns-in-Err-clause-lost g c = λ plain is.
    let refuses = c.in-Err.ensures.refuses in
    let come : c.new-dev.result.bytes.now ≡ c.args.file.now = cc (c.new-dev.ensures.bytes) in
    elim (c.file_is_sliced.ensures.opens c.args.limits.now _ c.args.file.now plain _ is
    (rw come at refuses.misses)) [
      | inl read ↦ let count = rw read at refuses.counted in absurd (omega (arith, count))
      | inr memory ↦ c.from.ensures ∙ memory
    ]

pub returns-in_err-read_range-clause-lost : goal.returns-in_err-read_range-clause-lost
returns-in_err-read_range-clause-lost g c = never_err c.from_residual.result (λ fault plain is.
    let b = c.args.file.now in
    let s = c.in-Ok.reader.chunks in
    let reads = c.in_err-read_range.ensures.reads in
    let begun = c.in-Ok.ensures.ranges.1 in
    let told = c.in-Ok.ensures.ranges.0 ∙ c.new-dev.ensures.bytes in
    let opened = c.given_is_known.ensures.opened c.in-Ok.reader.dev.now b _ _ _ s told begun.begins in
    let len = c.file_is_sliced.ensures.len c.in-Ok.reader.dev.now c.args.limits.now _ b plain s told is begun in
    let stop = reads.stop in
    elim stop.lost [
      | inl read ↦ let count = rw read at reads.count in absurd (omega (arith, count))
      | inr (bad, none) ↦ absurd (none-some _ (sym (c.given_is_known.ensures.piece c.read_range.new.self.dev.now b s.layout
          stop.chunk None (reads.stay ∙ told) opened.there none)
          ∙ c.file_is_sliced.ensures.chunk c.in-Ok.reader.dev.now c.args.limits.now _ b plain s stop.chunk told is begun
          (omega (arith, stop.some, stop.to, len))))
    ])
