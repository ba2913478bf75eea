-- What the first line of a text decides.
use Rattle.age_header.proofs.Common.{inl, inr, ◌≡◌, ◌≢◌, ℕ, ◌+◌, ◌-◌, ◌<◌, ◌≤◌, [], ◌∷◌, ◌++◌, length, length-append, length-take, take, drop, refl, ap, arith, append_assoc, ◌∙◌, min, append-nil, append_cancel_left, take_all, take_at, cases_lt, IsAtEnd, Err, Bytes, Gave, Seen, flow, NotAge, Truncated, TooLarge, LineEnd, Lf, Input, Room, line_bytes, IsEnd, line, version_line, version_size, ReadsHeader, IsLineText, BeginsAsAge, IsUndecided, take-take, starts_with_rest, rules, sym}
use Rattle.age_header.proofs.VerdictPathLemmas.{version_text, version_is_text, no_empty, both, take_past}
use Rattle.age_header.proofs.LengthLemmas.{length-line}
use Rattle.age_header.proofs.DeviceLemmas.{of_ended, of_more}
use Rattle.age_header.proofs.LinesLemmas.{line_split, no_line}

-- a text with no whole line decides nothing
line_open : (cap : Bytes) → IsLineText cap → IsUndecided cap
line_open cap text [] d = both d.decided (inl refl) no_empty
line_open cap text (k ∷ ks) d = let none = no_line (k ∷ ks) d.lines.rest cap text d.lines.prefix in cc

-- a prefix of a line, if it has no LF, is a prefix of the line's text
prefix_text : (v f d : Bytes) → IsLineText f → v ++ 10 ∷ [] ≡ f ++ d → (x : Bytes) × (v ≡ f ++ x)
prefix_text v [] d h e = (v, refl)
prefix_text [] (c ∷ f) d h e = absurd (h.0 cc)
prefix_text (a ∷ v) (c ∷ f) d h e = let (rest, is) = prefix_text v f d h.1 cc in (rest, cc)

version_is_line : version_line ≡ version_text ++ 10 ∷ []
unfolding version_line version_text
version_is_line = refl

-- the first 22 of the first max bytes are the first `min max 22` bytes
pub cap_prefix : (b : Bytes) (max : ℕ) → take version_size (take max b) ≡ take (min max version_size) b
cap_prefix b max = elim (cases_lt max version_size) [
  | inl low ↦
      let e : min max version_size ≡ max = omega arith in
      rw e (take_all version_size (take max b) (omega (arith, length-take max b)))
  | inr high ↦
      let e : min max version_size ≡ version_size = omega arith in
      rw e (take-take version_size max b high)
]

-- the first bytes of a text that begins as age, at most `min max 22`, begin the version line
begins_version : (x n : Bytes) (max : ℕ) → length x ≤ min max version_size → BeginsAsAge (take max (x ++ n))
    → (d : Bytes) × (version_line ≡ x ++ d)
begins_version x n max low age =
    let t : Bytes = take version_size (take max (x ++ n)) in
    let after : Bytes = drop (length t) version_line in
    let cut = cap_prefix (x ++ n) max ∙ take_past x n (min max version_size) low in (
      take (min max version_size - length x) n ++ after,
      starts_with_rest version_line t age ∙ ap (λ (z : Bytes). z ++ after) cut ∙ append_assoc x _ after,
    )

not_age : (first n : Bytes) (max : ℕ) → IsLineText first → length first ≤ min max version_size
    → ((x : Bytes) → version_text ≢ first ++ x) → BeginsAsAge (take max (first ++ n)) → ⊥
not_age first n max text low none age = search (rules, begins_version, prefix_text, version_is_line)

-- a first line that is not a prefix of the version line's text is refused with `NotAge`
pub no_prefix : {a new : Seen} (first : Bytes) (end : LineEnd) (max : ℕ) → Gave (flow a new) (line_bytes first end)
    → IsLineText first → IsEnd end (length first) (min max version_size) new.to_come
    → ((x : Bytes) → version_text ≢ first ++ x) → ReadsHeader (flow a new) max (Err NotAge)
no_prefix a b c d e f g = grind (arith, of_more, append_assoc, not_age)

-- a whole first line that is a proper prefix of the version line's text is refused with `NotAge`
pub short_line : {a new : Seen} (first : Bytes) {rest : Bytes} (max : ℕ) → Gave (flow a new) (line first)
    → IsLineText first → length first < min max version_size → version_text ≡ first ++ rest → rest ≢ []
    → ReadsHeader (flow a new) max (Err NotAge)
short_line first {rest} max took text low is more = of_more took (λ n _ age.
    let (d, whole) = begins_version (line first) n max (omega (arith, length-line first)) age in
    let ends : version_text ++ 10 ∷ [] ≡ first ++ 10 ∷ d = sym version_is_line ∙ whole
    ∙ append_assoc first (10 ∷ []) d in
    let (same, _) = line_split {a = version_text} {b = first} version_is_text text ends in
    more (append_cancel_left first rest [] (sym is ∙ same ∙ sym (append-nil first))))

prefix_size : (first rest : Bytes) → version_text ≡ first ++ rest → length first + length rest ≡ 21
unfolding version_text
prefix_size first rest is = omega (arith, ap length is, length-append first rest)

-- a prefix of the version line's text begins as age and decides nothing
first_open : (first rest cap : Bytes) → cap ≡ first → IsLineText first → version_text ≡ first ++ rest
    → BeginsAsAge cap × IsUndecided cap
first_open first rest cap same text is =
    search (rules, version_is_line, append_assoc, prefix_size, take_all, take_at, line_open)

-- a prefix of the version line's text: `Truncated` at the end of the input, `TooLarge` at the limit
pub short_input : {a new : Seen} {first : Bytes} (rest : Bytes) {max : ℕ} → Gave (flow a new) first → IsLineText first
    → (length first < min max version_size) × IsAtEnd new.to_come → version_text ≡ first ++ rest
    → ReadsHeader (flow a new) max (Err Truncated)
short_input {first} rest {max} took text (low, end) is =
    let (age, open') = first_open first rest (take max first) (take_all max first (omega arith)) text is in
    of_ended took end (age, open', omega arith)

pub short_room : {a new : Seen} {first : Bytes} (rest : Bytes) {max : ℕ} → Gave (flow a new) first → IsLineText first
    → length first ≡ min max version_size → version_text ≡ first ++ rest → ReadsHeader (flow a new) max (Err TooLarge)
short_room {first} rest {max} took text full is = grind (arith, of_more, prefix_size, take_at, first_open, length-append)

-- a first line with the whole text of the version line is that line, and the limit has room for it
pub version_read : {a new : Seen} (first : Bytes) {rest : Bytes} {max : ℕ} → Gave (flow a new) (line first)
    → length first < min max version_size
    → version_text ≡ first ++ rest → rest ≡ [] → (version_size ≤ max) × Gave (flow a new) version_line
version_read first {rest} took low is none = search (rules, prefix_size, append-nil, version_is_line)
