use Rattle.agefile.proofs.Common.{◌≡◌, take, lines_in}
use Rattle.agefile.proofs.heading.lines_in.Given as goal

abbrev pub invariant-loop-byte : goal.invariant-loop-byte
invariant-loop-byte l = l.lines ≡ lines_in (take l.byte-index l.text)
