-- The buffer is unchanged, no shorter padding was found, and lengths from `padding` on remain.
use Rattle.age_stream.proofs.Common.{◌≡◌, ◌+◌, ◌-◌, take, max_padding, padded_part}
use Rattle.age_stream.proofs.salvaging.open_padded.Given as goal

abbrev pub invariant-lengths : goal.invariant-lengths
invariant-lengths l = record {
  same : l.bytes ≡ l.fn.bytes;
  rest : padded_part l.key l.i 1 max_padding (take l.end l.fn.bytes)
      ≡ padded_part l.key l.i l.padding (max_padding + 1 - l.padding) (take l.end l.fn.bytes);
}
