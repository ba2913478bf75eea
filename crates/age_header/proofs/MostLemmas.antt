-- How much is read of a header that is refused.
use Rattle.age_header.proofs.Common.{◌++◌, ◌+◌, ◌≤◌, ℕ, arith, length, length-append, Option, Bytes, Flow, Gave, GaveAtMost, Seen, flow, HeaderFault, Read, LineEnd, Lf, Input, Room, version_line, IsEnd, line_bytes, ReadAtMost, State, lines_text, rules}
use Rattle.age_header.proofs.DeviceLemmas.{gave_then}
use Rattle.age_header.proofs.LengthLemmas.{length-version_line}
use Rattle.age_header.proofs.VerdictPathLemmas.{Reached}

pub within : {a b c : Seen} {x : Bytes} (k n : ℕ) → Gave (flow a b) x → GaveAtMost k (flow b c) → length x + k ≤ n
    → GaveAtMost n (flow a c)
within {x} k n g h low = (x ++ h.0, gave_then g h.1, omega (arith, length-append x h.0, h.2, low))

-- for a line read under a limit, the source returned at most as many bytes as the limit
pub line_most : (end : LineEnd) (text : Bytes) (k n : ℕ) (left : Option Bytes) (source : Flow)
    → Gave source (line_bytes text end) → IsEnd end (length text) k left → k ≤ n → GaveAtMost n source
line_most a b c d e f g h i = grind (arith, length-append)

-- if what is read after a path is within the room left, all that is read is within the limit
pub reached_within : {a mid : Seen} (new : Seen) {max room count : ℕ} {s : State}
    → Reached a mid max room count s → GaveAtMost room (flow mid new) → GaveAtMost max (flow a new)
reached_within new {max} {room} p h =
    within room max p.read h (omega (
      arith,
      length-append version_line (lines_text p.ls),
      length-version_line,
      p.size,
    ))

pub reached_most : (e : HeaderFault) {a mid : Seen} (new : Seen) {max room count : ℕ} {s : State}
    → Reached a mid max room count s → ReadAtMost room (flow mid new) e → ReadAtMost max (flow a new) e
reached_most Read new p h = tt
reached_most e new p h = reached_within new p h

-- a path and a line read after it are within the limit
pub line_within : {a mid : Seen} (new : Seen) {max room count : ℕ} {s : State} (end : LineEnd) (text : Bytes)
    → Reached a mid max room count s → Gave (flow mid new) (line_bytes text end)
    → IsEnd end (length text) room new.to_come → GaveAtMost max (flow a new)
line_within {mid = mid} new {room = room} end text p g is = search (rules, reached_within, line_most)
