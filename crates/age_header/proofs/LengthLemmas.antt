-- The lengths of the texts that a writer writes.
use Rattle.age_header.proofs.Common.{◌≡◌, ℕ, zero, suc, ◌+◌, ◌-◌, ◌*◌, ◌/◌, ◌%◌, ◌≤◌, List, [], ◌∷◌, ◌++◌, length, length-append, length-take, length-drop, take, drop, min, refl, arith, flat_map, Bytes, StanzaParts, argument_line, line, version_line, version_size, line_size, bytes_of_a_line, mac_size, base64_of, body_lines, body_text, stanza_text, signed_text, mac_end, rules}
use Rattle.age_header.proofs.TextLemmas.{signs_size}

pub length-line : (t : Bytes) → length (line t) ≡ length t + 1
length-line t = length-append t (10 ∷ [])

lines_size : (n : ℕ) (b : Bytes) → bytes_of_a_line * n ≤ length b
    → length (body_lines n b) ≡ (line_size + 1) * n + ((4 * (length b - bytes_of_a_line * n) + 2) / 3 + 1)
unfolding body_lines
lines_size zero b low = omega (arith, length-line (base64_of b), signs_size b)
lines_size (suc n) b low =
    let front : Bytes = take bytes_of_a_line b in
    let back : Bytes = drop bytes_of_a_line b in
    let size = length-drop bytes_of_a_line b in
    let rest = lines_size n back (omega arith) in
    let left : length back - bytes_of_a_line * n ≡ length b - bytes_of_a_line * suc n = omega arith in
    omega (
      arith,
      rw left at rest,
      length-take bytes_of_a_line b,
      length-append (line (base64_of front)) (body_lines n back),
      length-line (base64_of front),
      signs_size front,
    )

pub body_size : (b : Bytes) → length (body_text b)
    ≡ (line_size + 1) * (length b / bytes_of_a_line) + ((length b % bytes_of_a_line * 4 + 2) / 3 + 1)
unfolding body_text
body_size b = search (rules, lines_size)

pub stanza_size : (s : StanzaParts) → length (stanza_text s) ≡ length (argument_line s.args) + length (body_text s.body)
unfolding stanza_text
stanza_size s = length-append (argument_line s.args) (body_text s.body)

pub length-version_line : length version_line ≡ version_size
unfolding version_line
length-version_line = refl

pub mac_end_size : (mac : Bytes) → length mac ≡ mac_size → length (mac_end mac) ≡ 45
unfolding mac_end
mac_end_size mac n = omega (arith, signs_size mac, length-append (base64_of mac) (10 ∷ []))

pub header_size : (ss : List StanzaParts) (mac : Bytes) → length mac ≡ mac_size
    → length (signed_text ss ++ mac_end mac) ≡ 70 + length (flat_map stanza_text ss)
unfolding signed_text
header_size ss mac n = omega (arith, length-append {A = ℕ}, mac_end_size mac n, length-version_line)

-- the saturating sum of two saturated numbers is the saturated sum of the numbers themselves
pub sum_stays : (top r p q a b : ℕ) → p ≡ min a top → q ≡ min b top → r ≡ min (p + q) top → r ≡ min (a + b) top
sum_stays top r p q a b e f g = omega arith

pub ruleset stanza_len = (sum_stays, stanza_size)
