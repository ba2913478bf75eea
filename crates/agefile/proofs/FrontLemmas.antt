-- Opening a beginning of a file: one that contains the header and the nonce, such as the file's
-- first 65,552 bytes, and a shorter one.
use Rattle.agefile.proofs.Common.{◌≡◌, ◌≢◌, ◌⊎◌, ℕ, ◌+◌, ◌-◌, ◌<◌, ◌≤◌, List, ◌++◌, length, take, drop, sym, ◌∙◌, ap, refl, arith, inl, inr, append_assoc, length-append, length-drop, length-take, take-append-drop, codes, Result, Ok, Err, cases_lt, le-ltb, lt-ltb, drop-take, take-append-le, take-take, take_all, Bytes, line, version_line, AreLines, BeginsAsAge, Found, Finds, HeaderVerdict, lines_text, length-version_line, FileKey, Fault, HeaderTruncated, NonceTruncated, Answering, parts_of, header_key, Payload, Report, Start, fault_code, limits, front_size, IsStart, Opens, StartsAt, start_under}
use Rattle.age_header.specs.declared.fault.HeaderFault.TheVariants.{Truncated}
use Rattle.age_header.proofs.LinesLemmas.{lines_prefix}
use Rattle.age_header.proofs.VerdictFirstLineLemmas.{cap_prefix}
use Rattle.age_header.proofs.VerdictPathLemmas.{both, take_past}
use Rattle.age_header.proofs.VerdictUniqueLemmas as headers
use Rattle.agefile.proofs.HeaderLemmas.{whole_verdict}
use Rattle.agefile.proofs.UnlockLemmas.{found_start, opened_start, under}

-- ---- the bytes after the header

-- the first sixteen bytes determine the offset and the key of the chunks
start_in : (len m : ℕ) (rest : Bytes) (key : Result FileKey Fault) → 16 ≤ m
    → start_under len (take m rest) key ≡ start_under len rest key
start_in len m rest (Err fault) le = refl
start_in len m rest (Ok k) le = elim (cases_lt (length rest) 16) [
  | inl lt ↦ rw (take_all m rest (omega arith)) refl
  | inr ge ↦ grind (arith, length-take m rest, le-ltb, take-take 16 m rest le)
]

-- the same for a beginning of a file
start_behind : (len n : ℕ) (b : Bytes) (key : Result FileKey Fault) → len + 16 ≤ n
    → start_under len (drop len (take n b)) key ≡ start_under len (drop len b) key
start_behind len n b key le = grind (arith, drop-take len (n - len) b, start_in len (n - len) (drop len b) key (omega arith))

-- ---- a beginning that holds header and nonce

-- the first 65,552 bytes of a file have its start
pub whole_start : (answers : Answering) (b : Bytes) (start : Result Start Fault)
    → IsStart answers (take front_size b) start → IsStart answers b start
whole_start answers b start (Err e, verdict, is) = (Err e, whole_verdict b (Err e) verdict, is)
whole_start answers b start (Ok found, verdict, is) =
    let there = whole_verdict b (Ok found) verdict in
    let fits = (headers.begins_found b limits.max_header found there).fits in
    (Ok found, there, is ∙ start_behind (length found.text) front_size b _ (omega (arith, fits)))

pub longer : (answers : Answering) (n : ℕ) (b : Bytes) (s : Start) → IsStart answers (take n b) (Ok s)
    → IsStart answers b (Ok s)
longer answers n b s (Err e, verdict, is) = absurd (cc)
longer answers n b s (Ok found, verdict, is) =
    let w = headers.begins_found (take n b) limits.max_header found verdict in
    let len : ℕ = length found.text in
    let key = header_key answers (parts_of found) in
    let long = (under len (drop len (take n b)) key s is).long in
    let begins : found.text ++ (w.rest ++ drop n b) ≡ b = rw (← append_assoc, ← w.prefix) (take-append-drop n b) in (
      Ok found,
      rw begins at (headers.found_again (take n b) limits.max_header found verdict (w.rest ++ drop n b)),
      is ∙ start_behind len n b key (omega (arith, long, length-drop len (take n b), length-take n b)),
    )

-- a beginning of a file that is at least as long as the file's header has the same header
found_within : (n : ℕ) (b : Bytes) (found : Found) → Finds b limits.max_header found → length found.text ≤ n
    → Finds (take n b) limits.max_header found
found_within n b found h le =
    let w = headers.begins_found b limits.max_header found h in
    rw (w.prefix, take_past found.text w.rest n le)
    (headers.found_again b limits.max_header found h (take (n - length found.text) w.rest))

pub shorter : (answers : Answering) (n : ℕ) (b : Bytes) (s : Start) → s.first ≤ n → IsStart answers b (Ok s)
    → IsStart answers (take n b) (Ok s)
shorter answers n b s within (Err e, verdict, is) = absurd (cc)
shorter answers n b s within (Ok found, verdict, is) =
    let len : ℕ = length found.text in
    let key = header_key answers (parts_of found) in
    let first = (under len (drop len b) key s is).first in
    (Ok found, found_within n b found verdict (omega arith), rw (start_behind len n b key (omega arith)) is)

-- bytes have at most one start
pub one_start : (answers : Answering) (b : Bytes) {r s : Result Start Fault} → IsStart answers b r → IsStart answers b s
    → r ≡ s
one_start answers b (h, first, is) (k, second, so) =
    rw (is, so, headers.one_verdict b limits.max_header h k first second) refl

-- if a call opened a payload of b, another call that returns a start of b has the same results
pub gave : (answers : Answering) (b : Bytes) {s : Start} {p q : Payload} {report r : Report} {code : ℕ}
    {start : Result Start Fault} → StartsAt (Ok s) p report 0 → IsStart answers b (Ok s)
    → IsStart answers b start → StartsAt start q r code → (code ≡ 0) × ((q ≡ p) × (r ≡ report))
gave answers b (zero, place, payload) is there second = grind (arith, one_start answers b there is)

-- ---- a beginning of a header

-- every prefix of a text with a version line begins like an age file
begun : (n : ℕ) (x : Bytes) → BeginsAsAge (take n (version_line ++ x))
begun n x = grind (arith, length-version_line, cap_prefix, take-append-le, length-take)

-- a prefix shorter than these whole lines has fewer whole lines
fewer_lines : (ks ls : List Bytes) (p b : Bytes) (d : AreLines ks p) (e : AreLines ls b) (rest : Bytes)
    → b ≡ p ++ rest → length p < length (lines_text ls) → length ks < length ls
fewer_lines ks ls p b d e rest is short = elim (cases_lt (length ks) (length ls)) [
  | inl lt ↦ lt
  | inr ge ↦
      let split = rw (d.prefix, append_assoc) at (sym e.prefix ∙ is) in
      let (more, front, on) = lines_prefix ls ks e.rest (d.rest ++ rest) e.each d.each split ge in
      absurd (omega (arith, short, ap length is, ap length e.prefix, ap length on, length-append {A = ℕ}))
]

-- a beginning that ends within the header has the fault `Truncated`
cut_short : (b : Bytes) (max n : ℕ) (x : Found) → Finds b max x → n < length x.text
    → HeaderVerdict (take n b) max (Err Truncated)
cut_short b max n x h short =
    let w = headers.begins_found b max x h in
    let p : Bytes = take n b in
    let fits : length x.text ≤ max = w.fits in
    let low : length p < max = omega (arith, length-take n b, short, fits) in
    let same : take max p ≡ p = take_all max p (omega (arith, low)) in
    let behind : Bytes = drop n (take max b) in
    let front : take max b ≡ p ++ behind =
    rw (take-take n max b (omega (arith, short, fits))) at (sym (take-append-drop n (take max b))) in
    let after : Bytes = w.head.body ++ (line (codes "--- " ++ w.head.characters) ++ w.rest) in
    let version : b ≡ version_line ++ after =
    w.prefix ∙ ap (λ z. z ++ w.rest) w.head.spelled
    ∙ append_assoc (version_line ++ w.head.body) (line (codes "--- " ++ w.head.characters)) w.rest
    ∙ append_assoc version_line w.head.body (line (codes "--- " ++ w.head.characters) ++ w.rest) in
    let age : BeginsAsAge p = rw version (begun n after) in
    let few : length p < length (lines_text h.lines) = omega (arith, length-take n b, short, ap length h.is) in
    rw same (
      age,
      λ ks d.
          let there : AreLines ks (take max b) = record {
            rest = d.lines.rest ++ behind;
            each = d.lines.each;
            prefix = rw (d.lines.prefix, append_assoc) at front;
          } in
          let f = h.decides.first ks there
          (fewer_lines ks h.lines p (take max b) d.lines h.decides.lines behind front few) in
          both d.decided f.0 f.1,
      low,
    )

-- the result for a shorter beginning: its header or its nonce is cut short
abbrev ShortStart : (answers : Answering) (p : Bytes) → Type 0
ShortStart answers p = IsStart answers p (Err HeaderTruncated) ⊎ IsStart answers p (Err NonceTruncated)

pub short_start : (answers : Answering) (n : ℕ) (b : Bytes) (s : Start) → n < s.first → IsStart answers b (Ok s)
    → ShortStart answers (take n b)
short_start answers n b s low (Err e, verdict, is) = absurd (cc)
short_start answers n b s low (Ok found, verdict, is) =
    let len : ℕ = length found.text in
    let rest : Bytes = drop len (take n b) in
    let u = under len (drop len b) (header_key answers (parts_of found)) s is in
    elim (cases_lt n len) [
      | inl short ↦ inl (Err Truncated, cut_short b limits.max_header n found verdict short, refl)
      | inr ge ↦
          let few : length rest < 16 = omega (arith, u.first, length-drop len (take n b), length-take n b) in
          inr (Ok found, found_within n b found verdict ge, rw (u.unlocks, lt-ltb (length rest) 16 few) refl)
    ]

pub short_fronts : (answers : Answering) (n : ℕ) (b : Bytes) (p q : Payload) (report r : Report) (code : ℕ)
    → Opens answers b p report 0 → n < report.len → Opens answers (take n b) q r code → code ≢ 17
    → (code ≡ fault_code HeaderTruncated) ⊎ (code ≡ fault_code NonceTruncated)
short_fronts answers n b p q report r code first low second other =
    let (s, is, at) = opened_start answers b p report first in
    let (start, there, gives) = found_start answers (take n b) q r code second other in
    elim (short_start answers n b s (rw at.1 at low) is) [
      | inl header ↦ let h = rw (one_start answers (take n b) there header) at gives in inl h.returned
      | inr nonce ↦ let h = rw (one_start answers (take n b) there nonce) at gives in inr h.returned
    ]
