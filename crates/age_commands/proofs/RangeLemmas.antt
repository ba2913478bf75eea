-- What is written of a range, piece by piece.
use Rattle.age_commands.proofs.Common.{◌≡◌, ◌∙◌, ◌++◌, ◌+◌, ◌-◌, ◌%◌, ◌≤◌, ℕ, [], ap, arith, inl, inr, length, min, refl, slice_index, subst, sym, take, Appends-nil, Appends-trans, length-append, length-take, length-take-le, take-append-le, get_or-take, get_or_append_left, get_or-append-add, Appends, Bytes, Known, WritesPart, move_of, chunk_size, OfBytes, WritesBytes}
use Rattle.std.proofs.lemmas.Bool.{cases_lt}

-- nothing is written
pub nothing : (P : ℕ → ℕ → Type 0) (at : ℕ) {n : ℕ} (old : Known) → n ≡ 0 → WritesBytes P at n (move_of old old)
nothing P at old none = record {
  part = [];
  size = sym none;
  holds = λ k lt. absurd (omega arith);
  appends = Appends-nil old;
}

-- what holds of each byte of a list holds of each byte of a prefix
prefix : (P : ℕ → ℕ → Type 0) (at n : ℕ) (xs : Bytes) → OfBytes P at xs → OfBytes P at (take n xs)
prefix P at n xs holds k lt =
    let l : length (take n xs) ≡ min n (length xs) = length-take n xs in
    subst (P (at + k)) (sym (get_or-take n xs k 0 (omega arith))) (holds k (omega arith))

-- what holds of each byte of two lists holds of each byte of the two joined
both : (P : ℕ → ℕ → Type 0) (at : ℕ) (xs ys : Bytes) → OfBytes P at xs → OfBytes P (at + length xs) ys
    → OfBytes P at (xs ++ ys)
both P at xs ys one more k lt =
    let all : length (xs ++ ys) ≡ length xs + length ys = length-append xs ys in
    elim (cases_lt k (length xs)) [
      | inl before ↦ subst (P (at + k)) (sym (get_or_append_left xs ys 0 k before)) (one k before)
      | inr ge ↦
          let j : ℕ = k - length xs in
          let sum : k ≡ length xs + j = omega arith in
          let place : at + length xs + j ≡ at + k = omega arith in
          let value : slice_index (xs ++ ys) k ≡ slice_index ys j = ap (slice_index (xs ++ ys)) sum
          ∙ get_or-append-add xs ys j 0 in
          subst (P (at + k)) (sym value) (subst (λ x. P x (slice_index ys j)) place (more j (omega arith)))
    ]

-- a piece was written
pub written : {P : ℕ → ℕ → Type 0} {at n : ℕ} (buf rest : Bytes) {old new : Known} → n ≤ length buf
    → OfBytes P at (take n buf) → Appends old new (take n (buf ++ rest)) → WritesBytes P at n (move_of old new)
written {n} buf rest {old} {new} le holds a = record {
  part = take n buf;
  size = length-take-le n buf le;
  holds = holds;
  appends = subst (Appends old new) (take-append-le n buf rest le) a;
}

-- a prefix of a piece was written
pub written_part : {P : ℕ → ℕ → Type 0} {at n most : ℕ} (buf rest : Bytes) {old new : Known} → n ≤ length buf
    → OfBytes P at (take n buf) → n ≤ most → WritesPart (move_of old new) (take n (buf ++ rest))
    → (x : ℕ) × (x ≤ most) × WritesBytes P at x (move_of old new)
written_part {P} {at} {n} buf rest {old} {new} le holds low (k, a) =
    let l : length (take k (take n buf)) ≡ min k (length (take n buf)) = length-take k (take n buf) in
    let m : length (take n buf) ≡ n = length-take-le n buf le in (
      length (take k (take n buf)),
      omega arith,
      record {
        part = take k (take n buf);
        size = refl;
        holds = prefix P at k (take n buf) holds;
        appends = subst (λ xs. Appends old new (take k xs)) (take-append-le n buf rest le) a;
      },
    )

-- two parts that follow one another are one
pub follows : {P Q : ℕ → ℕ → Type 0} (R : ℕ → ℕ → Type 0) (at k from n m : ℕ) {old mid new : Known}
    → ((x byte : ℕ) → P x byte → R x byte) → ((x byte : ℕ) → Q x byte → R x byte) → from ≡ at + k → m ≡ k + n
    → WritesBytes P at k (move_of old mid) → WritesBytes Q from n (move_of mid new)
    → WritesBytes R at m (move_of old new)
follows R at k from n m {old} {mid} {new} first second ef em one more = record {
  part = one.part ++ more.part;
  size = grind (arith, length-append, one.size, more.size);
  holds = both R at one.part more.part (λ i lt. first (at + i) (slice_index one.part i) (one.holds i lt))
      (subst (λ x. OfBytes R x more.part) (grind (arith, one.size))
      (λ i lt. second (from + i) (slice_index more.part i) (more.holds i lt)));
  appends = Appends-trans old mid new one.part more.part one.appends more.appends;
}

pub some_on : (plain : ℕ) {begin : ℕ} (len : ℕ) {at : ℕ} (left : ℕ) {n : ℕ}
    → n ≡ min (min left (chunk_size - at % chunk_size)) (plain - at)
    → at + left ≡ begin + len → begin ≤ at → at - begin ≤ min len (plain - begin)
    → at + n - begin ≤ min len (plain - begin)
some_on plain len left is end low some = omega arith
