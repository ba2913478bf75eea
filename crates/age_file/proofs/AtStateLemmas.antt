-- A source read from its first byte on.
use Rattle.age_file.proofs.Common.{◌≡◌, ℕ, [], refl, ◌++◌, ◌+◌, ◌-◌, ◌^◌, ◌<◌, ◌≤◌, length, take, drop, min, sym, ◌∙◌, ap, arith, subst, IfOk, Option, Some, None, Result, Ok, length-append, length-drop, length-take, length-take-le, drop-drop, drop_all, get_or-append_right, get_or-take, get_or_append_left, take-append-drop, Bytes, Flow, Gave, Gives, Known, flow_by, Consumes, Consumes-nil, IsAtEnd, AtState, GaveFirst, IsWithin, EmptyAtEnd, GaveAt, IsPast, HasOffsets, StaysGiven, option_map}

-- xs are the bytes that the known contents have from offset `at` on
abbrev pub HasThere : (told : Known) (at : ℕ) (xs : Bytes) → Type 0
HasThere told at xs = (b : Bytes) → told ≡ Some b → xs ≡ take (length xs) (drop at b)

-- the next offset is not past the end
pub within_on : (told : Known) (at at2 n : ℕ) (buf : Bytes) → IsWithin told at → n ≤ length buf
    → at2 ≡ min (at + n) (2 ^ 64 - 1) → HasThere told at (take n buf) → IsWithin told at2
within_on None at at2 n buf within le next has = tt
within_on (Some b) at at2 n buf within le next has = grind (arith, length-take-le n buf le, length-drop, length-take (length (take n buf)) (drop at b))

-- a read at the current offset returns the next bytes
next_there : (told : Known) (at at2 n : ℕ) (buf : Bytes) → HasOffsets told → IsWithin told at → n ≤ length buf
    → at2 ≡ min (at + n) (2 ^ 64 - 1) → (n ≡ 0 → 0 < length buf → IsPast told at) → HasThere told at (take n buf)
    → Consumes (option_map (drop at) told) (option_map (drop at2) told) (take n buf)
    × (n ≡ 0 → 0 < length buf → IsAtEnd (option_map (drop at2) told))
next_there None at at2 n buf p w le next g has = (tt, λ e some. tt)
next_there (Some bytes) at at2 n buf p w le next g has =
    let fits : length bytes < 2 ^ 64 = p in
    let inside : at ≤ length bytes = w in
    let l : length (take n buf) ≡ n = length-take-le n buf le in
    let d : length (drop at bytes) ≡ length bytes - at = length-drop at bytes in
    let had : take n buf ≡ take n (drop at bytes) = has bytes refl ∙ ap (λ k. take k (drop at bytes)) l in
    let room : n ≡ min n (length (drop at bytes)) = sym l ∙ ap length had ∙ length-take n (drop at bytes) in
    let sum : at2 ≡ at + n = omega arith in (
      sym (take-append-drop n (drop at bytes)) ∙ ap (λ x. x ++ drop n (drop at bytes)) (sym had)
          ∙ ap (λ x. take n buf ++ x) (drop-drop n at bytes ∙ ap (λ k. drop k bytes) (sym sum)),
      λ e some. let past : length bytes ≤ at = g e some in drop_all at2 bytes (omega arith),
    )

-- no byte was returned yet
pub first_none : (gave : ℕ → ℕ → Type 0) {at : ℕ} → at ≡ 0 → GaveFirst gave at []
first_none gave start = rw start (refl, λ k lt. absurd (omega (arith, lt)))

-- after one more read, the bytes returned are those before it and then its own
pub first_then : (old new : ℕ → ℕ → Type 0) (at at2 : ℕ) (past more : Bytes) → StaysGiven old new
    → GaveFirst old at past → GaveAt new at more → at2 ≡ min (at + length more) (2 ^ 64 - 1)
    → GaveFirst new at2 (past ++ more)
first_then old new at at2 past more stays first gave next = grind (arith, length-append, length-take-le, get_or-take, get_or_append_left, get_or-append_right)

module _ {D : Type 0} (told : D → Known) (gave : D → ℕ → ℕ → Type 0) (old new : AtState D)
    (stay : told new.dev ≡ told old.dev) (stays : StaysGiven (gave old.dev) (gave new.dev)) where
  abbrev read_of : Flow
  read_of = flow_by (λ s. option_map (drop s.at) (told s.dev)) (λ s. GaveFirst (gave s.dev) s.at) old new

  -- a read returns the next bytes, and adds them to those returned before
  pub gives_on : {E : Type 0} (size : Option ℕ) {n : ℕ} (buf : Bytes) {r : Result ℕ E} → r ≡ Ok n
      → HasOffsets (told old.dev) → IsWithin (told old.dev) old.at → n ≤ length buf
      → new.at ≡ min (old.at + n) (2 ^ 64 - 1) → EmptyAtEnd (told old.dev) size old.at r buf
      → HasThere (told old.dev) old.at (take n buf) → IfOk r (λ n. GaveAt (gave new.dev) old.at (take n buf))
      → Gives read_of r buf
  gives_on {E} size {n} buf {r} is offsets within le next ends has reads =
      let ends_ok = subst (λ (x : Result ℕ E). EmptyAtEnd (told old.dev) size old.at x buf) is ends in
      let (here, end) = next_there (told old.dev) old.at new.at n buf offsets within le next (λ e some. (ends_ok e some).0) has in
      let more : GaveAt (gave new.dev) old.at (take n buf) =
      subst (λ (x : Result ℕ E). IfOk x (λ k. GaveAt (gave new.dev) old.at (take k buf))) is reads in
      let sum = next ∙ ap (λ k. min (old.at + k) (2 ^ 64 - 1)) (sym (length-take-le n buf le)) in
      subst (λ (x : Result ℕ E). Gives read_of x buf) (sym is) (
        record {
          consumes = rw stay here;
          grew = λ past first. first_then (gave old.dev) (gave new.dev) old.at new.at past (take n buf) stays first more sum;
        },
        rw stay end,
      )

  -- a read that failed returns no byte
  pub gives_none : new.at ≡ old.at → Gave read_of []
  gives_none at = record {
    consumes = rw (stay, at) (Consumes-nil (option_map (drop old.at) (told old.dev)));
    grew = λ past first. first_then (gave old.dev) (gave new.dev) old.at new.at past [] stays first
        (λ k lt. absurd (omega (arith, lt))) (omega (arith, at, first.0));
  }
