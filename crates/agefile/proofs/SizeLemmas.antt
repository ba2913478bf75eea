-- The length of a payload, and a bound on the length of a verdict's plaintext.
use Rattle.agefile.proofs.Common.{◌≡◌, ℕ, ◌+◌, ◌-◌, ◌*◌, ◌/◌, List, [], ◌∷◌, length, length-append, take, min, ◌∙◌, refl, ap, inl, inr, arith, ◌≤◌, length-drop, drop, cond, Result, Ok, Err, concat, AllByRecursion, cases_lt, take_min, Bytes, length-sealed_text, FileKey, is_cut, AtMost, cut_at_most, concat-cut_after, cut_count, chunk_count, limits, opened_len, plain_len_at_most, chunks, is_end, payload, payload_key, chunk_nonce, sealed_chunks_from, pieces, chunk_size, sealed_chunk_size, HeaderFault, Found, HeaderVerdict, Reading, plaintext_of, outcome, outcomes, payload_reading, reading_from, outcome_opens, result_cases, Fault, Answering, IsVerdict, header_key, parts_of, reading_after, reading_under, least_header}

-- the first piece of a text, taken by its own length instead of by the greatest
pub first_cut : (most size : ℕ) (left : Bytes) → size ≡ min (length left) most → take size left ≡ take most left
first_cut most size left sized = grind (arith, take_min most left)

-- the number of chunks
pub chunks_size : (plain : Bytes) → length (chunks plain) ≡ chunk_count (length plain)
chunks_size plain = cut_count chunk_size ((length plain - 1) / chunk_size) plain (omega arith)
    (elim (cases_lt 0 (length plain)) [ inl some ↦ inr (omega arith) | inr none ↦ inl (omega arith) ]) (omega arith)

sealed_size : (key : Bytes) (i : ℕ) (cs : List Bytes)
    → length (concat (sealed_chunks_from key i cs)) ≡ length (concat cs) + 16 * length cs
sealed_size key i [] = refl
sealed_size key i (c ∷ more) = grind (arith, length-sealed_text, length-append, sealed_size key (i + 1) more)

pub payload_size : (k : FileKey) (nonce plain : Bytes)
    → length (payload k nonce plain) ≡ length nonce + (length plain + 16 * chunk_count (length plain))
payload_size k nonce plain = grind (arith, sealed_size, is_cut, chunks_size, length-append)

-- ---- the plaintext of a verdict

-- n bytes of plaintext can come from pieces with r bytes in total: m pieces open, each to at most
-- 65,536 bytes, and to 16 bytes fewer than it has
abbrev pub Comes : ℕ → ℕ → Type 0
Comes n r = (m : ℕ) × (n ≤ chunk_size * m) × (n + 16 * m ≤ r)

abbrev pub AreSmall : List Bytes → Type 0
AreSmall cs = AllByRecursion (λ c. length c ≤ sealed_chunk_size) cs

small : (cs : List Bytes) → AtMost sealed_chunk_size cs → AreSmall cs
small (c ∷ d ∷ more) h = (let full : length c ≡ sealed_chunk_size = h.0 in omega arith, small (d ∷ more) h.1)
small cs h = grind arith

front_comes : (key : Bytes) (max i : ℕ) (cs : List Bytes) → AreSmall cs
    → Comes (length (plaintext_of (outcomes key max i cs))) (length (concat cs))
front_comes key max i [] all = (0, omega arith, omega arith)
front_comes key max i (c ∷ more) all = elim (result_cases (outcome key max i (is_end more) c)) [
  | inl some ↦
      let (m, low, high) = front_comes key max (i + 1) more all.1 in
      let len : length c ≡ length some.0 + 16 =
      ap length (outcome_opens key max i (is_end more) c some.0 some.1).sealed_so
      ∙ length-sealed_text key (chunk_nonce i (is_end more)) [] some.0 in
      rw (some.1, length-append c (concat more), length-append) (m + 1, omega (arith, low, all.0), omega (arith, high))
  | inr none ↦ rw none.1 (0, omega arith, omega arith)
]

comes_at_most : {n : ℕ} (r most : ℕ) → Comes n r → r ≤ most → n ≤ opened_len most
comes_at_most r most (m, low, high) le = grind arith

-- the plaintext of the bytes after a header has at most `opened_len` bytes
payload_at_most : (k : FileKey) (max most : ℕ) (text : Bytes) → length text - 16 ≤ most
    → length (payload_reading k max text).plaintext ≤ opened_len most
payload_at_most k max most text le =
    let rest : Bytes = drop 16 text in
    let join = ap length (concat-cut_after sealed_chunk_size [] rest) in
    let comes = front_comes (payload_key k (take 16 text)) max 0 (pieces rest)
    (small (pieces rest) (cut_at_most sealed_chunk_size rest (omega arith))) in
    let opens : length (reading_from (payload_key k (take 16 text)) max 0 rest).plaintext ≤ opened_len most =
    comes_at_most (length (concat (pieces rest))) most comes (omega (arith, join, length-drop 16 text)) in
    grind (arith, cond, opens)

under_at_most : (rest : Bytes) (most : ℕ) (key : Result FileKey Fault) → length rest - 16 ≤ most
    → length (reading_under limits rest key).plaintext ≤ opened_len most
under_at_most rest most (Err fault) le = omega arith
under_at_most rest most (Ok k) le = payload_at_most k limits.max_chunks most rest le

judged_at_most : (answers : Answering) (b : Bytes) (header : Result Found HeaderFault)
    → HeaderVerdict b limits.max_header header
    → length (reading_after limits answers b header).plaintext ≤ plain_len_at_most (length b)
judged_at_most answers b (Err fault) h = omega arith
judged_at_most answers b (Ok found) h =
    under_at_most (drop (length found.text) b) (length b - 86) (header_key answers (parts_of found))
    (omega (arith, least_header found.stanzas found.mac found.text h.head, length-drop (length found.text) b))

pub verdict_at_most : (answers : Answering) (b : Bytes) (verdict : Reading Fault) → IsVerdict limits answers b verdict
    → length verdict.plaintext ≤ plain_len_at_most (length b)
verdict_at_most answers b verdict is = rw is.is (judged_at_most answers b is.header is.header_verdict)
