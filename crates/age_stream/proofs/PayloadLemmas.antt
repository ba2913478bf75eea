-- A text is read without a fault exactly if it is a payload with few enough chunks.
use Rattle.age_stream.proofs.Common.{◌≡◌, ◌↔◌, ◌⊎◌, ℕ, List, [], ◌∷◌, ◌++◌, ◌+◌, ◌<◌, ◌≤◌, ◌&&◌, length, take, drop, map, sym, ◌∙◌, ap, arith, nat_lt, nat_le, nat_eq, cond, true, false, Bool, refl, suc, length-append, subst, inl, inr, Option, Some, None, Result, Ok, Err, ok_or, concat, le-ltb, lt-ltb, cases_lt, leb-false, lt-leb, nat_tests, take-append-drop, take_at, drop_at, length-take-le, Bytes, sealed_text, opened_text, FileKey, StreamFault, ChunkShort, EmptyFinal, BadChunk, TooManyChunks, chunk_size, sealed_chunk_size, IsCut, chunks, pieces, chunk_nonce, is_end, sealed_chunks_from, payload_key, payload, Reading, outcome, outcomes, first_fault, plaintext_of, reading_from, payload_reading, whole, length-sealed_text, opened_is, each, sealed_chunk}
use Rattle.age_stream.specs.Cutting.{IsFilled}
use Rattle.age_stream.proofs.CuttingLemmas.{is_cut, cut_is_unique, filled_cut, AtMost, cut_at_most}

-- a result is Ok or Err
pub result_cases : {A F : Type 0} (r : Result A F) → ((t : A) × (r ≡ Ok t)) ⊎ ((f : F) × (r ≡ Err f))
result_cases (Ok t) = inl (t, refl)
result_cases (Err f) = inr (f, refl)

-- piece i opens to t
pub record Opens (key : Bytes) (max i : ℕ) (last : Bool) (c t : Bytes) : Type 0 where
  pub within : i < max
  pub sealed_so : c ≡ sealed_text key (chunk_nonce i last) [] t
  pub some : last ≡ true → 0 < i → 0 < length t

pub outcome_opens : (key : Bytes) (max i : ℕ) (last : Bool) (c t : Bytes) → outcome key max i last c ≡ Ok t
    → Opens key max i last c t
unfolding outcome
outcome_opens key max i last c t h = grind (arith, nat_lt (length c) 16, nat_lt 0 i, opened_is key (chunk_nonce i last) [] c t, length-sealed_text key (chunk_nonce i last) [] t, nat_tests)

pub opens_outcome : (key : Bytes) (max i : ℕ) (last : Bool) (c t : Bytes) → Opens key max i last c t
    → outcome key max i last c ≡ Ok t
unfolding outcome
opens_outcome key max i last c t h = grind (arith, length-sealed_text, nat_lt, nat_tests, lt-leb, le-ltb, opened_is)

-- texts numbered from i on: all but the last are full, and the last is empty only if its number is 0
abbrev pub Sized : ℕ → List Bytes → Type 0
Sized i ts = ((ts ≡ [] ∷ []) × (i ≡ 0)) ⊎ IsFilled chunk_size ts

pub sized_one : (i : ℕ) (t : Bytes) → length t ≤ chunk_size → (0 < i → 0 < length t) → Sized i (t ∷ [])
sized_one i [] le h = inl (refl, grind arith)
sized_one i (x ∷ t) le h = inr (omega arith, le)

pub sized_more : (i : ℕ) (t : Bytes) (ts : List Bytes) → length t ≡ chunk_size → Sized (i + 1) ts → Sized i (t ∷ ts)
sized_more a b c d e = grind arith

pub is_end_each : (key : Bytes) (i : ℕ) (ts : List Bytes) → is_end (sealed_chunks_from key i ts) ≡ is_end ts
is_end_each key i [] = refl
is_end_each key i (t ∷ ts) = refl

-- the pieces cs open to texts, of which p is the join
pub record AllOpen (key : Bytes) (max i : ℕ) (cs : List Bytes) (p : Bytes) : Type 0 where
  pub texts : List Bytes
  pub sealed_so : sealed_chunks_from key i texts ≡ cs
  pub joined : concat texts ≡ p
  pub count : length texts + i ≤ max
  pub sizes : Sized i texts

-- of pieces without a fault the first opens, and the others have no fault
pub opens_first : (key : Bytes) (max i : ℕ) (c : Bytes) (cs : List Bytes)
    → first_fault (outcomes key max i (c ∷ cs)) ≡ None
    → (t : Bytes) × (outcome key max i (is_end cs) c ≡ Ok t) × (first_fault (outcomes key max (i + 1) cs) ≡ None)
opens_first key max i c cs h = grind (arith, result_cases)

-- pieces without a fault open
no_fault_open : (key : Bytes) (max i : ℕ) (cs : List Bytes) → AtMost sealed_chunk_size cs
    → first_fault (outcomes key max i cs) ≡ None → AllOpen key max i cs (plaintext_of (outcomes key max i cs))
no_fault_open key max i [] full h = absurd full
no_fault_open key max i (c ∷ []) full h =
    let (t, is, none) = opens_first key max i c [] h in
    let o = outcome_opens key max i true c t is in
    let len = ap length o.sealed_so ∙ length-sealed_text key (chunk_nonce i true) [] t in
    rw is (record {
      texts = t ∷ [];
      sealed_so = ap (λ x. x ∷ []) (sym o.sealed_so);
      joined = refl;
      count = omega (arith, o.within);
      sizes = sized_one i t (omega (arith, full, len)) (o.some refl);
    })
no_fault_open key max i (c ∷ d ∷ more) full h =
    let (t, is, none) = opens_first key max i c (d ∷ more) h in
    let o = outcome_opens key max i false c t is in
    let len = ap length o.sealed_so ∙ length-sealed_text key (chunk_nonce i false) [] t in
    let rest = no_fault_open key max (i + 1) (d ∷ more) full.1 none in
    let more_left : is_end rest.texts ≡ false = sym (is_end_each key (i + 1) rest.texts) ∙ ap is_end rest.sealed_so in
    rw is (record {
      texts = t ∷ rest.texts;
      sealed_so = rw (more_left, rest.sealed_so) (ap (λ x. x ∷ d ∷ more) (sym o.sealed_so));
      joined = ap (λ x. t ++ x) rest.joined;
      count = omega (arith, rest.count);
      sizes = sized_more i t rest.texts (omega (arith, full.0, len)) rest.sizes;
    })

-- sealed texts open
pub each_opens : (key : Bytes) (max i : ℕ) (ts : List Bytes) → Sized i ts → length ts + i ≤ max
    → outcomes key max i (sealed_chunks_from key i ts) ≡ map Ok ts
each_opens key max i [] s le = refl
each_opens key max i (t ∷ []) s le = grind (arith, opens_outcome)
each_opens key max i (t ∷ u ∷ ts) s le =
    let rest : Sized (i + 1) (u ∷ ts) = elim s [ inl e ↦ let long = e.0 in absurd (cc) | inr f ↦ inr f.1 ] in
    ap (λ r. r ∷ outcomes key max (i + 1) (sealed_chunks_from key (i + 1) (u ∷ ts)))
    (opens_outcome key max i false (sealed_text key (chunk_nonce i false) [] t) t (record {
      within = omega arith;
      sealed_so = refl;
      some = λ no pos. absurd (cc);
    })) ∙ ap (λ rs. Ok t ∷ rs) (each_opens key max (i + 1) (u ∷ ts) rest (omega arith))

plaintext_of_all : (ts : List Bytes) → plaintext_of {F = StreamFault} (map Ok ts) ≡ concat ts
plaintext_of_all [] = refl
plaintext_of_all (t ∷ ts) = ap (λ x. t ++ x) (plaintext_of_all ts)

fault_all : (ts : List Bytes) → first_fault {F = StreamFault} (map Ok ts) ≡ None
fault_all [] = refl
fault_all (t ∷ ts) = fault_all ts

-- sealed chunks have the sizes of pieces
each_filled : (key : Bytes) (i : ℕ) (ts : List Bytes) → AtMost chunk_size ts
    → IsFilled sealed_chunk_size (sealed_chunks_from key i ts)
each_filled key i [] h = h
each_filled key i (t ∷ []) h = omega (arith, h, length-sealed_text key (chunk_nonce i true) [] t)
each_filled key i (t ∷ u ∷ ts) h = grind (arith, length-sealed_text, each_filled key (i + 1) (u ∷ ts) h.1)

pub pieces_each : (key : Bytes) (ts : List Bytes) → AtMost chunk_size ts
    → pieces (concat (sealed_chunks_from key 0 ts)) ≡ sealed_chunks_from key 0 ts
pieces_each key ts h = filled_cut sealed_chunk_size (sealed_chunks_from key 0 ts) (omega arith) (each_filled key 0 ts h)

-- b is the payload of p under some nonce, and has at most `max` chunks
pub record IsPayload (k : FileKey) (b p : Bytes) (max : ℕ) : Type 0 where
  pub nonce : Bytes
  pub nonce_len : length nonce ≡ 16
  pub spelled : b ≡ payload k nonce p
  pub count : length (chunks p) ≤ max

-- the sizes of texts numbered from 0 on are those of a cut
pub sized_cut : (ts : List Bytes) → Sized 0 ts → IsCut chunk_size (concat ts) ts
sized_cut ts (inl e) = record { joined = refl; sizes = inl e.0 }
sized_cut ts (inr f) = record { joined = refl; sizes = inr f }

all_open_payload : (k : FileKey) (b p : Bytes) (max : ℕ) → 16 ≤ length b
    → AllOpen (payload_key k (take 16 b)) max 0 (pieces (drop 16 b)) p → IsPayload k b p max
all_open_payload k b p max le o = grind (arith, cut_is_unique chunk_size (concat o.texts) o.texts (omega arith) (sized_cut o.texts o.sizes), sized_cut o.texts o.sizes, is_cut sealed_chunk_size (drop 16 b) (omega arith), length-take-le 16 b le, take-append-drop 16 b)

pub ok_payload : (k : FileKey) (b p : Bytes) (max : ℕ) → payload_reading k max b
    ≡ record { plaintext = p; fault = None }
    → IsPayload k b p max
ok_payload k b p max h = grind (arith, lt-ltb, le-ltb, no_fault_open, cut_at_most, all_open_payload)

pub at_most_chunks : (p : Bytes) → Sized 0 (chunks p)
at_most_chunks p = elim (is_cut chunk_size p (omega arith)).sizes [ inl e ↦ inl (e, refl) | inr f ↦ inr f ]

pub payload_ok : (k : FileKey) (b p : Bytes) (max : ℕ) → IsPayload k b p max
    → payload_reading k max b ≡ record { plaintext = p; fault = None }
payload_ok k b p max h =
    let key : Bytes = payload_key k h.nonce in
    let rest : Bytes = concat (sealed_chunks_from key 0 (chunks p)) in
    rw (
      h.spelled,
      le-ltb (length (h.nonce ++ rest)) 16 (omega (arith, length-append h.nonce rest, h.nonce_len)),
      take_at h.nonce rest 16 h.nonce_len,
      drop_at h.nonce rest 16 h.nonce_len,
      pieces_each key (chunks p) (cut_at_most chunk_size p (omega arith)),
      each_opens key max 0 (chunks p) (at_most_chunks p) (omega (arith, h.count)),
      plaintext_of_all (chunks p),
      fault_all (chunks p),
      (is_cut chunk_size p (omega arith)).joined,
    )

pub ok_is_payload_both : (k : FileKey) (b p : Bytes) (max : ℕ)
    → (payload_reading k max b ≡ record { plaintext = p; fault = None }) ↔
    ((nonce : Bytes) × (length nonce ≡ 16) × (b ≡ payload k nonce p) × (length (chunks p) ≤ max))
ok_is_payload_both k b p max = (
  (λ h. let i = ok_payload k b p max h in (i.nonce, i.nonce_len, i.spelled, i.count)),
  (λ h. payload_ok k b p max (record { nonce = h.0; nonce_len = h.1; spelled = h.2; count = h.3 })),
)

pub length_each : {A : Type 0} (of : ℕ → Bool → Bytes → A) (i : ℕ) (ts : List Bytes)
    → length (each of i ts) ≡ length ts
length_each of i [] = refl
length_each of i (t ∷ ts) = ap suc (length_each of (i + 1) ts)

-- the pieces of a payload that reads whole are its sealed chunks
pub whole_pieces : (k : FileKey) (b p : Bytes) (max : ℕ) → payload_reading k max b ≡ whole p
    → pieces (drop 16 b) ≡ sealed_chunks_from (payload_key k (take 16 b)) 0 (chunks p)
whole_pieces k b p max h =
    let i = ok_payload k b p max h in
    let text : Bytes = concat (sealed_chunks_from (payload_key k i.nonce) 0 (chunks p)) in
    rw (i.spelled, take_at i.nonce text 16 i.nonce_len, drop_at i.nonce text 16 i.nonce_len)
    (pieces_each (payload_key k i.nonce) (chunks p) (cut_at_most chunk_size p (omega arith)))

pub whole_count : (k : FileKey) (b p : Bytes) (max : ℕ) → payload_reading k max b ≡ whole p
    → length (pieces (drop 16 b)) ≡ length (chunks p)
whole_count k b p max h =
    rw (whole_pieces k b p max h) (length_each (sealed_chunk (payload_key k (take 16 b))) 0 (chunks p))
