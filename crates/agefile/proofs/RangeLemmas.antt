-- The pieces of a payload by their places in the file.
use Rattle.std.proofs.Common.{slice_get}
use Rattle.std.proofs.lemmas.List.{get_or-drop}
use Rattle.std.proofs.lemmas.Option.{slice_get-get_or}
use Rattle.agefile.proofs.Common.{◌≡◌, refl, ℕ, [], ◌+◌, ◌-◌, ◌*◌, ◌/◌, ◌%◌, ◌<◌, length, take, drop, nat_le, sym, ◌∙◌, ap, arith, true, Bool, Some, Ok, length-drop, length-take, drop-drop, take_all, take_min, Bytes, length-sealed_text, opened_text-sealed_text, pieces, chunk_nonce, outcome, chunk_size, sealed_chunk_size, outcome_opens, Ranges, limits, piece_outcome, last_index, piece_at, plain_of}
use Rattle.age_stream.specs.Slice.{IsSlice, last_outcome, opening, plain_len}
use Rattle.age_stream.proofs.JudgesLastLemmas.{last_is}
use Rattle.age_stream.proofs.LoadLemmas.{piece_count, some_or_none}
use Rattle.age_stream.proofs.SliceLemmas.{opening_at, plain_count}

-- how many bytes are left from the first sealed chunk on
left : (r : Ranges) (b : Bytes) → length b ≡ r.first + r.sealed_len → length (drop r.first b) ≡ r.sealed_len
left r b size = omega (arith, size, length-drop r.first b)

-- piece i, cut at its offset in the file, is piece i of the payload
piece_there : (r : Ranges) (b : Bytes) (i : ℕ) → length b ≡ r.first + r.sealed_len
    → piece_at r b i ≡ take sealed_chunk_size (drop (sealed_chunk_size * i) (drop r.first b))
piece_there r b i size =
    let there : Bytes = drop (r.first + sealed_chunk_size * i) b in
    let len : r.sealed_len - sealed_chunk_size * i ≡ length there =
    omega (arith, size, length-drop (r.first + sealed_chunk_size * i) b) in
    rw (drop-drop (sealed_chunk_size * i) r.first b, len) (take_min sealed_chunk_size there)

pub last_there : (r : Ranges) (b : Bytes) → length b ≡ r.first + r.sealed_len
    → outcome r.key limits.max_chunks (last_index r.sealed_len) true (piece_at r b (last_index r.sealed_len))
    ≡ last_outcome r.key limits.max_chunks (drop r.first b)
last_there r b size =
    let rest : Bytes = drop r.first b in
    let last : ℕ = last_index r.sealed_len in
    let n : length rest ≡ r.sealed_len = left r b size in
    let whole = take_all sealed_chunk_size (drop (sealed_chunk_size * last) rest)
    (omega (arith, length-drop (sealed_chunk_size * last) rest)) in
    rw (piece_there r b last size, whole) (sym (last_is r.key limits.max_chunks rest n))

pub len_there : (r : Ranges) (b text : Bytes) → length b ≡ r.first + r.sealed_len
    → last_outcome r.key limits.max_chunks (drop r.first b) ≡ Ok text
    → plain_len (drop r.first b) ≡ plain_of r.sealed_len
len_there r b text size h =
    let rest : Bytes = drop r.first b in
    let last : ℕ = last_index r.sealed_len in
    let n : length rest ≡ r.sealed_len = left r b size in
    let is : last ≡ (length rest - 1) / sealed_chunk_size = rw n refl in
    let piece : Bytes = drop (sealed_chunk_size * last) rest in
    let o = outcome_opens r.key limits.max_chunks last true piece text
    (sym (last_is r.key limits.max_chunks rest n) ∙ h) in
    let len : length piece ≡ length text + 16 = ap length o.sealed_so
    ∙ length-sealed_text r.key (chunk_nonce last true) [] text in
    let d = length-drop (sealed_chunk_size * last) rest in
    let count : plain_len rest + 16 * (last + 1) ≡ length rest =
    plain_count last rest (some_or_none last (length rest) is) (omega arith) (omega arith) in
    omega arith

pub slice_there : (r : Ranges) (b text : Bytes) (at : ℕ) → length b ≡ r.first + r.sealed_len
    → at < plain_of r.sealed_len → piece_outcome r (at / chunk_size) (piece_at r b (at / chunk_size)) ≡ Ok text
    → (at % chunk_size < length text) × IsSlice r.key (drop r.first b) at (drop (at % chunk_size) text)
slice_there r b text at size within h =
    let rest : Bytes = drop r.first b in
    let i : ℕ = at / chunk_size in
    let skip : ℕ = at % chunk_size in
    let last : ℕ = last_index r.sealed_len in
    let n : length rest ≡ r.sealed_len = left r b size in
    let count : length (pieces rest) ≡ last + 1 = piece_count rest last (rw n refl) in
    let piece : Bytes = take sealed_chunk_size (drop (sealed_chunk_size * i) rest) in
    let d = length-drop (sealed_chunk_size * i) rest in
    let l = length-take sealed_chunk_size (drop (sealed_chunk_size * i) rest) in
    let flag : Bool = nat_le r.sealed_len (sealed_chunk_size * (i + 1)) in
    let o = outcome_opens r.key limits.max_chunks i flag piece text
    (rw (piece_there r b i size) at h) in
    let len : length piece ≡ length text + 16 = ap length o.sealed_so
    ∙ length-sealed_text r.key (chunk_nonce i flag) [] text in
    let opens : opening r.key rest i ≡ Some text =
    rw (opening_at r.key rest i (omega arith), n, o.sealed_so)
    (opened_text-sealed_text r.key (chunk_nonce i flag) [] text) in (
      omega arith,
      λ k lt.
          let inside : k < length text - skip = omega (arith, lt, length-drop skip text) in
          let here : i ≡ (at + k) / chunk_size = omega (arith, inside, len, l) in
          let there : (at + k) % chunk_size ≡ skip + k = omega (arith, inside, len, l) in (
            text,
            rw (← here) opens,
            ap (slice_get text) there ∙ slice_get-get_or text (skip + k) 0 (omega (arith, inside))
                ∙ ap Some (sym (get_or-drop skip text k 0)),
          ),
    )
