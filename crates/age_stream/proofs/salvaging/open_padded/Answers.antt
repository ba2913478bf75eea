use Rattle.age_stream.proofs.Common.{arith, ◌≡◌, ◌∙◌, ◌+◌, ◌-◌, take, length-take-le, max_padding}
use Rattle.age_stream.proofs.SalvageLemmas.{padded_end, padded_step}
use Rattle.age_stream.proofs.salvaging.open_padded.Goals as goal

pub returns-then-open_prefix-clause-opened : goal.returns-then-open_prefix-clause-opened
returns-then-open_prefix-clause-opened c =
    let k = c.lengths.padding in
    let opens = rw c.lengths.invariant.same at c.if-open_prefix.ensures.opened in
    let len : c.args.end - k - 16 ≡ c.args.end - 16 - k = omega arith in
    c.lengths.invariant.rest ∙ padded_step c.args.key.now c.args.i k (max_padding + 1 - k) c.args.end c.args.bytes.now
    c.requires.high c.chunk_nonce.ensures (omega (arith, c.min-most.ensures)) (omega (arith, c.min-most.ensures))
    ∙ rw (opens, len)

pub lengths-preserved : goal.lengths-preserved
lengths-preserved c =
    let k = c.lengths.padding in
    let none = rw c.lengths.invariant.same at c.if-open_prefix.ensures.refused in
    let next : max_padding - k ≡ 4096 - (k + 1) = omega arith in
    record {
      same = c.if-open_prefix.ensures.unchanged ∙ c.lengths.invariant.same;
      rest = c.lengths.invariant.rest ∙ padded_step c.args.key.now c.args.i k (max_padding + 1 - k) c.args.end
          c.args.bytes.now c.requires.high c.chunk_nonce.ensures (omega (arith, c.min-most.ensures))
          (omega (arith, c.min-most.ensures)) ∙ rw (none, next);
    }

pub returns-clause-none : goal.returns-clause-none
returns-clause-none c = λ none. (
  c.lengths.invariant.same,
  c.lengths.invariant.rest ∙ padded_end c.args.key.now c.args.i c.lengths.padding (take c.args.end c.args.bytes.now)
      (length-take-le c.args.end c.args.bytes.now c.requires.high) c.min-most.ensures (omega arith),
)
