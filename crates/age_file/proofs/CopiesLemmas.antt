-- A source that is copied piece by piece.
use Rattle.age_file.proofs.Common.{◌≡◌, inr, ℕ, ◌+◌, ◌*◌, ◌^◌, ◌≤◌, true, false, [], ◌++◌, length, refl, sym, arith, Result, Ok, Err, Appends-nil, Appends-trans, Appends, IfErr, Bytes, Flow, Gave, Moved, WritesPart, Known, Seen, flow, move_of, gave_then, of_any, of_ended, of_more, of_then, done_part, done_start, Fault, TooManyChunks, Read, Write, Copies, CopiesAhead, CopiesPiece, GaveAhead, buffer_size, append-nil, length-append}

-- a prefix of x is also a prefix of x ++ y
pub part_more : (sink : Moved) (x y : Bytes) → WritesPart sink x → WritesPart sink (x ++ y)
part_more sink x y = done_part sink.after x y (done_start (x ++ y)) refl

-- x was written, and then a prefix of y: a prefix of x ++ y
pub part_after : (a b c : Known) (x y : Bytes) → Appends a b x → WritesPart (move_of b c) y
    → WritesPart (move_of a c) (x ++ y)
part_after a b c x y put = done_part c y [] (record { prefix = x; took = put; is = refl }) (sym (append-nil y))

-- after a copied piece, the result of copying the rest is the result of copying everything
pub copied_then : {from a : Seen} (b : Seen) (old m n : Known) {x : Bytes} (r : Result (Unit {0}) Fault)
    → Gave (flow from a) x → Appends old m x → Copies (flow a b) (move_of m n) r
    → Copies (flow from b) (move_of old n) r
copied_then b old m n {x} (Ok done) took put h = of_then took h (λ rest h. Appends-trans old m n x rest put h)
copied_then b old m n {x} (Err Read) took put h = of_then took h (λ rest part. part_after old m n x rest put part)
copied_then b old m n {x} (Err Write) took put h = of_then took h (λ rest part. part_after old m n x rest put part)
copied_then b old m n {x} (Err TooManyChunks) took put ((text, wrote, much), h) = (
  (x ++ text, Appends-trans old m n x text put wrote, omega (arith, length-append x text, much)),
  of_then took h (λ rest part. (part_after old m n x rest put part.0, omega (arith, length-append x rest, part.1))),
)
copied_then b old m n (Err fault) took put h = absurd h

-- a device's fault while a piece is copied is a result of copying everything
pub piece_failed : (size : ℕ) (from to : Seen) (old new : Known) (fault : Fault)
    → CopiesPiece size (flow from to) (move_of old new) (Err fault)
    → Copies (flow from to) (move_of old new) (Err fault)
piece_failed size from to old new Read (some, still) = rw still (of_any some (λ d. (0, Appends-nil old)))
piece_failed size from to old new Write (piece, took, part, few) =
    of_more took (λ d end. part_more (move_of old new) piece d part)
piece_failed size from to old new fault h = absurd h

-- the bytes copied, at least as many as k full pieces have
pub record Copied (from now : Seen) (old new : Known) (k : ℕ) : Type 0 where
  pub bytes : Bytes
  pub took : Gave (flow from now) bytes
  pub put : Appends old new bytes
  pub long : buffer_size * k ≤ length bytes

pub copied_more : {size : ℕ} {from a b : Seen} {old m n : Known} {k : ℕ} → size ≡ buffer_size → Copied from a old m k
    → CopiesPiece size (flow a b) (move_of m n) (Ok true) → Copied from b old n (k + 1)
copied_more {old} {m} {n} size c (piece, took, put, full) = record {
  bytes = c.bytes ++ piece;
  took = gave_then c.took took;
  put = Appends-trans old m n c.bytes piece c.put put;
  long = omega (arith, length-append c.bytes piece, full, size, c.long);
}

-- after full pieces the rest of the source was copied, so everything was
pub copied_all : (size : ℕ) {from a b : Seen} {old m : Known} (n : Known) {k : ℕ} → Copied from a old m k
    → CopiesPiece size (flow a b) (move_of m n) (Ok false) → Copies (flow from b) (move_of old n) (Ok tt)
copied_all size {old} {m} n c (piece, took, put, end) =
    of_ended (gave_then c.took took) end (Appends-trans old m n c.bytes piece c.put put)

pub copied_beyond : {from a : Seen} {old m : Known} {k : ℕ} → 2 ^ 89 ≤ k → Copied from a old m k
    → Copies (flow from a) (move_of old m) (Err TooManyChunks)
copied_beyond {old} {m} beyond c = (
  (c.bytes, c.put, omega (arith, c.long, beyond)),
  of_more c.took (λ d end. (
    part_after old m m c.bytes d c.put (0, Appends-nil m),
    omega (arith, length-append c.bytes d, c.long, beyond),
  )),
)

-- ---- how much was read

-- how far the source was read ahead in all, if x was read and y was written first
pub ahead_then : {a b c : Seen} {old put new : Known} {x : Bytes} (y : Bytes) (m s : ℕ)
    → Gave (flow a b) x → Appends old put y
    → length x + m ≤ length y + s → GaveAhead m (flow b c) (move_of put new) → GaveAhead s (flow a c) (move_of old new)
ahead_then {a} {b} {c} {old} {put} {new} {x} y m s gave took few h = record {
  given = x ++ h.given;
  gave = gave_then gave h.gave;
  written = y ++ h.written;
  took = Appends-trans old put new y h.written took h.took;
  within = omega (arith, length-append x h.given, length-append y h.written, few, h.within);
}

pub copies_ahead_then : {a b : Seen} (c : Seen) (old m n : Known) {x : Bytes} (r : Result (Unit {0}) Fault)
    → Gave (flow a b) x → Appends old m x
    → IfErr r (CopiesAhead (flow b c) (move_of m n)) → IfErr r (CopiesAhead (flow a c) (move_of old n))
copies_ahead_then a b c d e f g h = grind (arith, ahead_then)

pub piece_ahead : (size : ℕ) (source : Flow) (sink : Moved) (fault : Fault) → size ≤ buffer_size
    → CopiesPiece size source sink (Err fault) → CopiesAhead source sink fault
piece_ahead a b c d e f = grind arith

pub beyond_ahead : {from a : Seen} {old m : Known} {k : ℕ} → Copied from a old m k
    → CopiesAhead (flow from a) (move_of old m) TooManyChunks
beyond_ahead c = inr (record { given = c.bytes; gave = c.took; written = c.bytes; took = c.put; within = omega arith })

pub ruleset copy_all = (piece_failed, piece_ahead)

pub ruleset copy_pieces = (copied_beyond, beyond_ahead)
