-- A text has one header verdict: a header exactly if the text begins with it and it fits the limit.
use Rattle.age_header.proofs.Common.{inl, ◌≡◌, ℕ, ◌<◌, List, [], ◌∷◌, ◌++◌, length, length-append, length-take, take, drop, take-append-drop, refl, sym, ap, arith, append_assoc, ◌∙◌, Ok, Err, append-nil, nil_from_length, cases_order, Result, Bytes, HeaderFault, NotAge, BadLine, Truncated, TooLarge, version_line, between, lines_text, AreLines, Decides, Found, HeaderVerdict, Finds, IsFault, BeginsWith, rules}
use Rattle.age_header.proofs.LinesLemmas.{lines_prefix}
use Rattle.age_header.proofs.HeaderLemmas.{head_path, end_text, one_parts}
use Rattle.age_header.proofs.VerdictPathLemmas.{version_text, path_decides, whole_lines, both}

-- fewer lines don't decide where more do
not_fewer : (b : Bytes) (ks ls : List Bytes) → Decides ks b → Decides ls b → length ks < length ls → ⊥
not_fewer b ks ls d e fewer = let (viable, no_header) = e.first ks d.lines fewer in both d.decided viable no_header

-- two equally long lists of first lines of one text are equal
as_many : (b : Bytes) (ks ls : List Bytes) → AreLines ks b → AreLines ls b → length ks ≡ length ls → ks ≡ ls
as_many b ks ls d e size = search (rules, lines_prefix, nil_from_length, length-append, append-nil)

-- at most one list of lines decides
decides_once : (b : Bytes) (ks ls : List Bytes) → Decides ks b → Decides ls b → ks ≡ ls
decides_once b ks ls d e = search (rules, cases_order, as_many, not_fewer)

same_found : (b : Bytes) (max : ℕ) (x y : Found) → Finds b max x → Finds b max y → x ≡ y
same_found b max x y h k =
    let lines = decides_once (take max b) h.lines k.lines h.decides k.decides in
    let text : x.text ≡ y.text = h.is ∙ ap lines_text lines ∙ sym k.is in
    let (stanzas, mac) = one_parts x.stanzas y.stanzas x.mac y.mac y.text (rw text at h.head) k.head in
    let parts : (record { stanzas = x.stanzas; mac = x.mac; text = x.text }) ≡ y = rw (stanzas, mac, text) refl in
    parts

header_fault : (b : Bytes) (max : ℕ) (x : Found) (f : HeaderFault) → Finds b max x → IsFault b max f → ⊥
header_fault a b c d e f = grind (arith, decides_once)

same_fault : (b : Bytes) (max : ℕ) (f g : HeaderFault) → IsFault b max f → IsFault b max g → f ≡ g
same_fault a b c d e f = grind (arith, decides_once)

pub one_verdict : (b : Bytes) (max : ℕ) (r q : Result Found HeaderFault) → HeaderVerdict b max r → HeaderVerdict b max q
    → r ≡ q
one_verdict b max (Ok x) (Ok y) h k = ap Ok (same_found b max x y h k)
one_verdict b max (Ok x) (Err g) h k = absurd (header_fault b max x g h k)
one_verdict b max (Err f) (Ok y) h k = absurd (header_fault b max y f k h)
one_verdict b max (Err f) (Err g) h k = ap Err (same_fault b max f g h k)

-- a header that was found begins the text, within the limit
pub begins_found : (b : Bytes) (max : ℕ) (x : Found) → Finds b max x → BeginsWith b max x
begins_found b max x h =
    let rest : Bytes = h.decides.lines.rest in
    let cap : take max b ≡ x.text ++ rest = rw h.is h.decides.lines.prefix in
    grind (arith, take-append-drop max b, append_assoc, length-take max b, length-append x.text rest)

-- a header that begins the text within the limit is found
pub found_begins : (b : Bytes) (max : ℕ) (x : Found) → BeginsWith b max x → Finds b max x
found_begins b max x h =
    let p = head_path h.head in
    let ls : List Bytes = p.lines ++ end_text p.characters ∷ [] in
    let is : b ≡ (version_line ++ lines_text ls) ++ h.rest = h.prefix ∙ ap (λ (z : Bytes). z ++ h.rest) p.is in
    let (begun, decides) = path_decides p.lines (between x.stanzas) (end_text p.characters) b h.rest max p.each p.leads
    is (rw p.is at h.fits) (inl (x.stanzas, x.mac, rw p.is at h.head)) in
    grind (arith, version_text, whole_lines)

-- a header that was found is found in every text that it begins
pub found_again : (b : Bytes) (max : ℕ) (x : Found) → Finds b max x → (rest : Bytes) → Finds (x.text ++ rest) max x
found_again b max x h rest = search (rules, begins_found, found_begins)
