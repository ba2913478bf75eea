-- The outcome of the last piece, and the result of opening a payload for ranges.
use Rattle.age_stream.proofs.Common.{Bool, ◌≡◌, ◌⊎◌, ℕ, [], ◌+◌, ◌-◌, ◌*◌, ◌<◌, ◌≤◌, length, take, drop, get_or, nat_eq, sym, ◌∙◌, ap, arith, true, refl, inl, inr, Option, None, Some, Result, Ok, Err, eq-eqb, le-leb, le-ltb, lt-ltb, length-drop, length-take-le, drop-drop, take_all, Agrees, Bytes, FileKey, StreamFault, Memory, Read, TooManyChunks, Write, Layout, sealed_chunk_size, chunk_buf_size, length-sealed_text, opened_text-sealed_text, IsAtPiece, pieces, chunk_nonce, payload_key, GaveAt, outcome, last_index, last_len, BeginsAt, BeginsRanges, IsOpenFault, IsOpened, JudgesLast, OpensRanges, PieceOpens, RangeState, plain_len, chunk_len, last_piece, last_outcome, range_outcome}
use Rattle.std.specs.Option.{MatchOption}
use Rattle.age_stream.proofs.PayloadLemmas.{outcome_opens}
use Rattle.age_stream.proofs.LoadLemmas.{count_there, piece_count, some_or_none, tight_at}
use Rattle.age_stream.proofs.ReadAtLemmas.{has_at}
use Rattle.age_stream.proofs.SliceLemmas.{cut_at, plain_count}

last_number : (rest : Bytes) → length (pieces rest) - 1 ≡ last_index (length rest)
last_number rest = omega (arith, piece_count rest (last_index (length rest)) refl)

last_piece_is : (rest : Bytes) → last_piece rest ≡ drop (sealed_chunk_size * last_index (length rest)) rest
last_piece_is rest =
    let last : ℕ = last_index (length rest) in
    let d = length-drop (sealed_chunk_size * last) rest in
    ap (λ k. get_or (pieces rest) k []) (last_number rest) ∙ cut_at sealed_chunk_size last rest (omega arith)
    ∙ take_all sealed_chunk_size (drop (sealed_chunk_size * last) rest) (omega arith)

-- the outcome of the last piece, with its number and its offset written out
pub last_is : (key : Bytes) (max : ℕ) (rest : Bytes) {n : ℕ} → length rest ≡ n
    → last_outcome key max rest ≡ outcome key max (last_index n) true (drop (sealed_chunk_size * last_index n) rest)
last_is key max rest len = grind (arith, last_number, last_piece_is)

outcome_many : (key : Bytes) (max i : ℕ) (last : Bool) (c : Bytes) → max ≤ i
    → outcome key max i last c ≡ Err TooManyChunks
unfolding outcome
outcome_many key max i last c le = rw (le-leb max i le) refl

-- the result of `JudgesLast` is the outcome of the last piece of the known contents
judged_there : (b : Bytes) {gave : ℕ → ℕ → Type 0} {found : Option ℕ} (key : Bytes) (max first sealed : ℕ)
    (r : Result Bytes StreamFault) → Agrees b gave found → length b ≡ first + sealed
    → JudgesLast gave key max first sealed r → last_outcome key max (drop first b) ≡ r
judged_there b key max first sealed r agrees size (inl (many, is)) =
    let all = length-drop first b in
    last_is key max (drop first b) (omega arith) ∙ outcome_many key max (last_index sealed) true
    (drop (sealed_chunk_size * last_index sealed) (drop first b)) many ∙ sym is
judged_there b key max first sealed r agrees size (inr (piece, len, read, is)) =
    let at : ℕ = sealed_chunk_size * last_index sealed in
    let all : length (drop first b) ≡ length b - first = length-drop first b in
    let d : length (drop at (drop first b)) ≡ length (drop first b) - at = length-drop at (drop first b) in
    let same : piece ≡ drop at (drop first b) = has_at b piece (first + at) agrees read
    ∙ ap (take (length piece)) (sym (drop-drop at first b))
    ∙ take_all (length piece) (drop at (drop first b)) (omega arith) in
    last_is key max (drop first b) (omega arith) ∙ ap (outcome key max (last_index sealed) true) (sym same) ∙ is

-- the outcome of a last piece that was read is the result of `JudgesLast`
pub judged : (gave : ℕ → ℕ → Type 0) (key : Bytes) (max first sealed last end : ℕ) (buf : Bytes)
    {r : Result Bytes StreamFault} → last ≡ last_index sealed → end ≡ sealed - sealed_chunk_size * last
    → length buf ≡ chunk_buf_size → GaveAt gave (first + sealed_chunk_size * last) (take end buf)
    → outcome key max last true (take end buf) ≡ r → JudgesLast gave key max first sealed r
judged gave key max first sealed last end buf is len room read opens = grind (arith, length-take-le)

-- the length of a last piece that opens
pub open_len : (key : Bytes) (max i : ℕ) {end n : ℕ} (buf after : Bytes) → length buf ≡ chunk_buf_size
    → end ≤ sealed_chunk_size → outcome key max i true (take end buf) ≡ Ok (take n after) → n ≤ length after
    → (n + 16 ≡ end) × (0 < i → 0 < n)
open_len key max i {end} {n} buf after room le opens within = grind (arith, outcome_opens key max i true (take end buf) (take n after) opens, length-sealed_text key (chunk_nonce i true) [] (take n after), length-take-le end buf (omega arith), length-take-le n after within)

-- if the outcome of the last piece, as read, is its text, `PieceOpens` holds of this text
pub last_opens : {gave : ℕ → ℕ → Type 0} {layout : Layout} (max last end : ℕ) {n : ℕ} (buf after : Bytes)
    → layout.count ≡ last + 1 → GaveAt gave (layout.first + sealed_chunk_size * last) (take end buf)
    → length (take end buf) ≡ n + 16 → outcome layout.key max last true (take end buf) ≡ Ok (take n after)
    → n ≡ chunk_len layout.plain last
    → PieceOpens gave layout (layout.count - 1) (Some (take (chunk_len layout.plain (layout.count - 1)) after))
last_opens {gave} {layout} max last end {n} buf after count read size opens len =
    let o = outcome_opens layout.key max last true (take end buf) (take n after) opens in
    let at : last ≡ layout.count - 1 = omega arith in
    let is_last : nat_eq (last + 1) layout.count ≡ true = eq-eqb (last + 1) layout.count (sym count) in
    let opens = opened_text-sealed_text layout.key (chunk_nonce last true) [] (take n after) in
    grind arith

plain_there : (layout : Layout) (rest : Bytes) → length rest ≡ layout.plain + 16 * layout.count
    → plain_len rest ≡ layout.plain
plain_there layout rest size =
    let low = tight_at layout (layout.count - 1) (omega (arith, layout.some)) in
    let more = some_or_none (layout.count - 1) (length rest) (count_there layout (length rest) (sym size)) in
    let high = plain_count (layout.count - 1) rest more (omega (arith, layout.covers)) (omega (arith, layout.covers)) in
    omega (arith, layout.some, layout.covers, high)

-- what opening a payload found holds of the known contents
begun_there : (b : Bytes) {gave : ℕ → ℕ → Type 0} {found : Option ℕ} (k : FileKey) (max at : ℕ) {key : Bytes}
    {first sealed : ℕ} (r : Result Bytes StreamFault) → Agrees b gave found
    → BeginsAt k max at gave found key first sealed r
    → (length b ≡ first + sealed) × (key ≡ payload_key k (take 16 (drop at b))) × (range_outcome k max (drop at b) ≡ r)
begun_there b k max at {key} {first} {sealed} r agrees begins =
    let size : length b ≡ first + sealed = sym (rw begins.end at agrees.size) in
    let nonce : begins.nonce ≡ take 16 (drop at b) = has_at b begins.nonce at agrees begins.read
    ∙ ap (λ n. take n (drop at b)) begins.len in
    let d : length (drop at b) ≡ length b - at = length-drop at b in
    let derived : key ≡ payload_key k (take 16 (drop at b)) = begins.derived ∙ ap (payload_key k) nonce in
    let judged = judged_there b key max first sealed r agrees size begins.judges in (
      size,
      derived,
      rw (le-ltb (length (drop at b)) 16 (omega (arith, begins.after)), ← derived, drop-drop 16 at b, ← begins.after)
          judged,
    )

pub opened_there : (b : Bytes) {gave : ℕ → ℕ → Type 0} {found : Option ℕ} (k : FileKey) (max at : ℕ) (s : RangeState)
    → Agrees b gave found → BeginsRanges k max at gave found s → IsOpened k max (Some b) at s
opened_there b k max at s agrees begins =
    let (size, key, opens) = begun_there b k max at _ agrees begins in
    let there : length (drop s.layout.first b) ≡ s.layout.plain + 16 * s.layout.count =
    omega (arith, size, length-drop s.layout.first b) in
    grind (arith, plain_there s.layout (drop s.layout.first b) there)

pub refused_there : (b : Bytes) {gave : ℕ → ℕ → Type 0} {found : Option ℕ} (k : FileKey) (max at : ℕ)
    (fault : StreamFault) → Agrees b gave found → OpensRanges k max at gave found (Err fault)
    → (fault ≡ Read) ⊎ ((fault ≡ Memory) ⊎ (range_outcome k max (drop at b) ≡ Err fault))
refused_there b k max at fault agrees (inl e) = inl e
refused_there b k max at fault agrees (inr (inl e)) = inr (inl e)
refused_there b k max at fault agrees (inr (inr (inl (is, (n, size, short))))) = grind (arith, length-drop, lt-ltb)
refused_there b k max at fault agrees (inr (inr (inr (key, first, sealed, begins)))) =
    inr (inr (begun_there b k max at (Err fault) agrees begins).2)

-- if at most the nonce was read, and nothing without a size, the bound `last` of `Probes` holds
pub probed : (size : Option ℕ) (at : ℕ) {old new : ℕ} → (size ≡ None → new ≤ old) → new ≤ old + 16
    → MatchOption size (new ≤ old) (λ n. new ≤ old + (16 + last_len (n - (at + 16))))
probed None at unread le = unread refl
probed (Some n) at unread le = omega arith

-- a fault of a piece is one that opening a payload may return
pub piece_named : (max i : ℕ) (fault : StreamFault) → IsAtPiece max i fault → IsOpenFault fault
piece_named a b c d = grind arith
