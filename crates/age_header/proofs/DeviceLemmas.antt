-- What a source gave in reads one after another, and a text that is written part by part.
use Rattle.age_header.proofs.Common.{◌∙◌, ◌++◌, ◌+◌, ℕ, [], refl, arith, append-nil, length-append, ◌≡◌, length, take, min, sym, append_assoc, subst, None, Some, IsAtEnd, Appends, Appends-trans, take-append-add, Result, Ok, Err, Bytes, Flow, Gave, GaveSome, Known, Seen, flow, move_of, Consumes, IfSome, ⊤, Consumes-nil, Consumes-trans, Appends-nil, take_min, take-append-le, GaveAtMost, Grew, OfGiven, Writes, WritesPart, rules}

grew_none : (a : Seen) → Grew (flow a a) []
grew_none a past h = rw append-nil h

grew_then : (a b c : Seen) (x y : Bytes) → Grew (flow a b) x → Grew (flow b c) y → Grew (flow a c) (x ++ y)
grew_then a b c x y g h past p = rw append_assoc at (h (past ++ x) (g past p))

-- without a read, a source returned no bytes
pub gave_none : {a : Seen} → Gave (flow a a) []
gave_none {a} = record { consumes = Consumes-nil a.to_come; grew = grew_none a }

pub gave_then : {a b c : Seen} {x y : Bytes} → Gave (flow a b) x → Gave (flow b c) y → Gave (flow a c) (x ++ y)
gave_then {a} {b} {c} {x} {y} g h = search (rules, Consumes-trans, grew_then)

pub some_then : {a b c : Seen} {x : Bytes} → Gave (flow a b) x → GaveSome (flow b c) → GaveSome (flow a c)
some_then {x = x} g (y, h) = (x ++ y, gave_then g h)

pub gave_more : (a b c : Seen) (n m : ℕ) → GaveAtMost n (flow a b) → GaveAtMost m (flow b c)
    → GaveAtMost (n + m) (flow a c)
gave_more a b c n m (x, first, low) (y, rest, few) = (x ++ y, gave_then first rest, omega (arith, length-append x y))

-- what holds of these bytes, whatever follows them, holds as `OfGiven`
pub of_more : {a b : Seen} {x : Bytes} {P : Bytes → Type 0} → Gave (flow a b) x
    → ((d : Bytes) → (IsAtEnd b.to_come → d ≡ []) → P (x ++ d)) → OfGiven (flow a b) P
of_more {x = x} g p = record { given = x; gave = g; holds = p }

-- what holds of any bytes holds as `OfGiven`
pub of_any : {a b : Seen} {P : Bytes → Type 0} → GaveSome (flow a b) → ((b : Bytes) → P b) → OfGiven (flow a b) P
of_any (x, g) p = of_more g (λ d end. p (x ++ d))

-- what holds of the bytes up to the end of the source holds as `OfGiven`
pub of_ended : {a b : Seen} {x : Bytes} {P : Bytes → Type 0} → Gave (flow a b) x → IsAtEnd b.to_come → P x
    → OfGiven (flow a b) P
of_ended g end p = of_more g (λ d none. rw (none end, append-nil) p)

-- `OfGiven` of later bytes gives `OfGiven` of these bytes and the later ones, joined
pub of_then : {a b c : Seen} {x : Bytes} {P Q : Bytes → Type 0} → Gave (flow a b) x → OfGiven (flow b c) Q
    → ((y : Bytes) → Q y → P (x ++ y)) → OfGiven (flow a c) P
of_then {x = x} g h p =
    of_more (gave_then g h.gave) (λ d end. rw (append_assoc x h.given d) (p (h.given ++ d) (h.holds d end)))

pub of_map : {a b : Seen} {P Q : Bytes → Type 0} → OfGiven (flow a b) Q → ((y : Bytes) → Q y → P y)
    → OfGiven (flow a b) P
of_map h p = of_more h.gave (λ d end. p (h.given ++ d) (h.holds d end))

-- what holds of the bytes that a source gave, whatever follows them, holds of its known bytes
all_known : (P : Bytes → Type 0) (given : Bytes) (told left : Known) → Consumes told left given
    → ((d : Bytes) → (IsAtEnd left → d ≡ []) → P (given ++ d)) → IfSome told P
all_known a b c d e f = grind arith

pub of_all : {source : Flow} {P : Bytes → Type 0} → OfGiven source P → IfSome source.before.to_come P
of_all {source} {P} h = all_known P h.given source.before.to_come source.after.to_come h.gave.consumes h.holds

pub of_known : (P : Bytes → Type 0) (source : Flow) (told : Bytes) → source.before.to_come ≡ Some told
    → OfGiven source P → P told
of_known P source told is h = rw is at (of_all h)

-- a source with these known bytes
abbrev pub of_told : Bytes → Seen
of_told b = record { to_come = Some b; gave = λ past. ⊤ }

pub gave_told : (b x n : Bytes) → b ≡ x ++ n → Gave (flow (of_told b) (of_told n)) x
gave_told b x n is = record { consumes = is; grew = λ past h. tt }

-- a prefix of the whole text was written, and `left` is the rest of the text
pub record Done (a b : Known) (whole left : Bytes) : Type 0 where
  pub prefix : Bytes
  pub took : Appends a b prefix
  pub is : whole ≡ prefix ++ left

pub done_start : {a : Known} (whole : Bytes) → Done a a whole whole
done_start {a} whole = record { prefix = []; took = Appends-nil a; is = refl }

pub done_more : {a b c : Known} {whole left : Bytes} (x : Bytes) {y : Bytes}
    → Done a b whole left → left ≡ x ++ y → Appends b c x
    → Done a c whole y
done_more {a} {b} {c} x {y} d e h = search (rules, Appends-trans, append_assoc)

pub done_part : {a b : Known} (c : Known) {whole left : Bytes} (x y : Bytes) → Done a b whole left → left ≡ x ++ y
    → WritesPart (move_of b c) x → WritesPart (move_of a c) whole
done_part {a} {b} c {whole} x y d e (m, took) =
    let n : ℕ = min m (length x) in
    let part : take n (x ++ y) ≡ take m x = take-append-le n x y (omega arith) ∙ take_min m x in
    let cut : take (length d.prefix + n) whole ≡ d.prefix ++ take m x =
    rw (d.is, e, take-append-add d.prefix, part) refl in
    (length d.prefix + n, rw cut (Appends-trans a b c d.prefix (take m x) d.took took))

-- after a last call, which writes the rest or on an Err part of it, the whole or a prefix was taken
pub writes_last : {T E : Type 0} {a b : Known} (c : Known) (r : Result T E) {whole left : Bytes} → Done a b whole left
    → Writes (move_of b c) r left → Writes (move_of a c) r whole
writes_last {a} {b} c (Ok x) {whole} {left} d h = rw d.is (Appends-trans a b c d.prefix left d.took h)
writes_last {a} {b} c (Err e) {whole} {left} d w = done_part c left [] d (sym (append-nil left)) w
