-- A piece that was read at its offset.
use Rattle.age_stream.proofs.Common.{◌≡◌, ◌⊎◌, ℕ, [], ◌+◌, ◌-◌, ◌*◌, ◌/◌, Bytes, ◌<◌, ◌≤◌, length, take, drop, nat_le, nat_eq, ◌∙◌, sym, ap, arith, inl, inr, Option, Some, cases_lt, nat_tests, take_all, length-drop, length-take-le, drop-drop, opened_text, Agrees, Known, Layout, chunk_size, sealed_chunk_size, chunk_buf_size, chunk_nonce, pieces, GaveAt, PieceOpens, source_opening, IsThere, chunk_len}
use Rattle.age_stream.proofs.ReadAtLemmas.{has_at}
use Rattle.age_stream.proofs.ReadingLemmas.{cut_count}
use Rattle.age_stream.proofs.SliceLemmas.{opening_at}

pub some_or_none : (last len : ℕ) → last ≡ (len - 1) / sealed_chunk_size → (last ≡ 0) ⊎ (sealed_chunk_size * last < len)
some_or_none last len is = grind (arith, is)

pub piece_count : (rest : Bytes) (last : ℕ) → last ≡ (length rest - 1) / sealed_chunk_size
    → length (pieces rest) ≡ last + 1
piece_count rest last is =
    cut_count sealed_chunk_size last rest (omega arith) (some_or_none last (length rest) is) (omega arith)

pub count_there : (layout : Layout) (n : ℕ) → layout.plain + 16 * layout.count ≡ n
    → layout.count - 1 ≡ (n - 1) / sealed_chunk_size
count_there layout n sealed = grind (arith, sealed, layout.some, layout.covers, layout.tight)

-- there are as many pieces as the layout counts
there_count : (layout : Layout) (rest : Bytes) → length rest ≡ layout.plain + 16 * layout.count
    → length (pieces rest) ≡ layout.count
there_count layout rest size = grind (arith, piece_count, count_there)

pub tight_at : (layout : Layout) (i : ℕ) → i < layout.count → chunk_size * i ≤ layout.plain
tight_at layout i lt = grind (arith, layout.tight, layout.covers, lt)

there_last : (layout : Layout) (rest : Bytes) (i : ℕ) → length rest ≡ layout.plain + 16 * layout.count
    → i < layout.count → nat_eq (i + 1) layout.count ≡ nat_le (length rest) (sealed_chunk_size * (i + 1))
there_last layout rest i size lt = grind (arith, nat_tests, layout.tight, layout.covers, size, lt)

-- a piece that was read opens as that piece of the known contents does
pub opens_there : (b : Bytes) {gave : ℕ → ℕ → Type 0} {found : Option ℕ} (layout : Layout) (i : ℕ) (o : Known)
    → Agrees b gave found → IsThere (Some b) layout → PieceOpens gave layout i o
    → source_opening (Some b) layout i ≡ o
opens_there b layout i o agrees there opens =
    let rest : Bytes = drop layout.first b in
    let lt = opens.within in
    let low = tight_at layout i lt in
    let d = length-drop (sealed_chunk_size * i) rest in
    let behind : Bytes = drop (sealed_chunk_size * i) rest in
    let at : opens.piece ≡ take (length opens.piece) behind =
    has_at b opens.piece (layout.first + sealed_chunk_size * i) agrees opens.read
    ∙ ap (take (length opens.piece)) (sym (drop-drop (sealed_chunk_size * i) layout.first b)) in
    let piece : opens.piece ≡ take sealed_chunk_size behind = elim (cases_lt (i + 1) layout.count) [
      | inl more ↦
          let e : length opens.piece ≡ sealed_chunk_size = omega (arith, opens.len, layout.tight (omega arith)) in
          at ∙ ap (λ k. take k behind) e
      | inr ge ↦ at ∙ take_all (length opens.piece) behind (omega (arith, opens.len, there.size, layout.covers))
          ∙ sym (take_all sealed_chunk_size behind (omega (arith, there.size, layout.covers)))
    ] in
    rw (
      opening_at layout.key rest i (omega (arith, there_count layout rest there.size)),
      ← there_last layout rest i there.size lt,
      ← piece,
    ) opens.opens
