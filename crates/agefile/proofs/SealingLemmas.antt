-- Sealing the chunks of a plaintext into a buffer.
use Rattle.agefile.proofs.Common.{◌≡◌, ◌⊎◌, ℕ, ◌+◌, ◌-◌, ◌*◌, ◌<◌, ◌≤◌, [], ◌++◌, length, take, drop, min, nat_le, false, sym, ◌∙◌, ap, ap₂, refl, arith, inr, append_assoc, length-append, length-drop, ◌^◌, Vec, None, Ok, Global, concat, le-leb, lt-leb, drop-drop, length-take-le, nil_from_length, take_all, take_at, Bytes, sealed_text, length-sealed_text, FileKey, chunk_nonce, chunks, payload, sealed_chunks_from, chunk_size, sealed_chunk_size, cut_last, cut_step, is_end_cut, Report, Encrypts, MakesHeader, report_of, chunk_count, file_len}
use Rattle.agefile.proofs.HeadingLemmas.{size_of}
use Rattle.agefile.proofs.RunLemmas.{text_of}
use Rattle.agefile.proofs.SizeLemmas.{chunks_size, first_cut}

-- ---- one chunk

-- the first chunk is sealed at the start of the room
abbrev pub SealsFirst : (key : Bytes) (number : ℕ) (left room new : Bytes) → Type 0
SealsFirst key number left room new =
    new ≡ sealed_text key (chunk_nonce number (nat_le (length left) chunk_size)) [] (take chunk_size left)
    ++ drop (min (length left) chunk_size + 16) room

pub first_sealed : (key : Bytes) (number size : ℕ) (left : Bytes) {text : Bytes} (front back : Bytes)
    {chunk rest : Bytes} (room : Bytes)
    → size ≡ min (length left) chunk_size → text ≡ take size left → front ≡ text → length back ≡ 16
    → chunk ≡ sealed_text key (chunk_nonce number (nat_le (length left) chunk_size)) []
    (take (length (front ++ back) - 16) (front ++ back)) → rest ≡ drop (size + 16) room
    → SealsFirst key number left room (chunk ++ rest)
first_sealed key number size left front back room sized is copied tag sealed_so behind = grind (arith, text_of front back tag, first_cut chunk_size size left sized)

-- ---- one chunk after another

-- this many chunks were sealed, and are at the start of the buffer
pub record IsSealedTo (key plain out : Bytes) (at done number : ℕ) : Type 0 where
  pub text : Bytes
  pub begins : take done out ≡ text
  pub place : at ≡ chunk_size * number
  pub sealed_so : done ≡ sealed_chunk_size * number
  pub count : length text ≡ done
  pub some : (number ≡ 0) ⊎ (at < length plain)
  pub seals : concat (sealed_chunks_from key 0 (chunks plain))
      ≡ text ++ concat (sealed_chunks_from key number (chunks (drop at plain)))

-- the last chunk fills the rest of the buffer
last_fills : (key plain out : Bytes) (at done number : ℕ) → IsSealedTo key plain out at done number
    → length out ≡ length plain + 16 * chunk_count (length plain) → length (drop at plain) ≤ chunk_size
    → length out ≡ done + (length (drop at plain) + 16)
last_fills key plain out at done number r size last = grind (arith, length-drop)

pub seals_end : {key plain left room : Bytes} (out mid : Bytes) {new : Bytes} (at done number : ℕ)
    → IsSealedTo key plain out at done number → length out ≡ length plain + 16 * chunk_count (length plain)
    → left ≡ drop at plain → room ≡ drop done out → length left ≤ chunk_size → SealsFirst key number left room mid
    → new ≡ take done out ++ mid → new ≡ concat (sealed_chunks_from key 0 (chunks plain))
seals_end {key} {plain} {left} {room} out mid at done number r size left_is room_is last is joined =
    let fills = last_fills key plain out at done number r size (rw left_is at last) in
    let skip : ℕ = min (length left) chunk_size + 16 in
    let none = nil_from_length (drop skip room)
    (omega (arith, fills, ap length left_is, ap length room_is, length-drop done out, length-drop skip room)) in
    let filled = rw (none, le-leb (length left) chunk_size last, take_all chunk_size left last) at is in
    joined ∙ ap₂ ◌++◌ r.begins filled ∙ sym (rw (← left_is, cut_last chunk_size left last) at r.seals)

pub seals_more : {key plain left room : Bytes} (out mid : Bytes) {new : Bytes} (at done number : ℕ)
    → IsSealedTo key plain out at done number → left ≡ drop at plain → room ≡ drop done out
    → chunk_size < length left → SealsFirst key number left room mid → new ≡ take done out ++ mid
    → IsSealedTo key plain new (at + chunk_size) (done + sealed_chunk_size) (number + 1)
seals_more {key} {plain} {left} {room} out mid {new} at done number r left_is room_is more is joined =
    let next : Bytes = drop chunk_size left in
    let text : Bytes = take chunk_size left in
    let one : Bytes = sealed_text key (chunk_nonce number false) [] text in
    let after : Bytes = drop (min (length left) chunk_size + 16) room in
    let full : length text ≡ chunk_size = length-take-le chunk_size left (omega (arith, more)) in
    let long : length one ≡ length text + 16 = length-sealed_text key (chunk_nonce number false) [] text in
    let count : length (r.text ++ one) ≡ done + sealed_chunk_size =
    omega (arith, full, long, r.count, length-append r.text one) in
    let put : mid ≡ one ++ after = rw (lt-leb (length left) chunk_size more) at is in
    let later : Bytes = concat (sealed_chunks_from key (number + 1) (chunks next)) in
    let rest : concat (sealed_chunks_from key number (chunks left)) ≡ one ++ later =
    rw (cut_step chunk_size left (omega arith) more, is_end_cut chunk_size [] next) refl in
    let seals = rw (← left_is, rest, ← append_assoc r.text one later) at r.seals in
    record {
      text = r.text ++ one;
      begins = rw (joined, r.begins, put, ← append_assoc r.text one after) (take_at (r.text ++ one) after
          (done + sealed_chunk_size) count);
      place = omega (arith, r.place);
      sealed_so = omega (arith, r.sealed_so);
      count = count;
      some = inr (omega (arith, more, ap length left_is, length-drop at plain));
      seals = rw (ap (drop chunk_size) left_is ∙ drop-drop chunk_size at plain) at seals;
    }

-- ---- the whole file

-- the size computed, which does not saturate, is the length of the file
pub file_size : (k : FileKey) (header nonce plain : Bytes) (size : ℕ) → length nonce ≡ 16 → length header < 2 ^ 62
    → length plain < 2 ^ 63 → size ≡ min (file_len (length header) (length plain)) (2 ^ 64 - 1)
    → size ≡ length (header ++ payload k nonce plain)
file_size k header nonce plain size len short low is = omega (arith, is, short, low, size_of k header nonce plain len)

pub encrypts_exceeds : {stanzas file_key nonce plain old : Bytes} (header : Vec ℕ Global) {report : Report} (size : ℕ)
    → MakesHeader stanzas (record { 0 = file_key }) (Ok header)
    → length nonce ≡ 16 → length header.items < 2 ^ 62 → length plain < 2 ^ 63
    → size ≡ min (file_len (length header.items) (length plain)) (2 ^ 64 - 1)
    → report ≡ report_of size None → length old < size → Encrypts stanzas file_key nonce plain old old report 21
encrypts_exceeds {file_key = f} {nonce = n} {plain = plain} header size made len short low is reported more =
    grind (arith, chunks_size, file_size (record { 0 = f }) header.items n plain size len short low is)

pub encrypts_whole : {stanzas file_key nonce plain old : Bytes} (file : Bytes) {rest : Bytes} (header : Vec ℕ Global)
    {report : Report} (size : ℕ) → MakesHeader stanzas (record { 0 = file_key }) (Ok header)
    → length nonce ≡ 16 → length header.items < 2 ^ 62 → length plain < 2 ^ 63
    → size ≡ min (file_len (length header.items) (length plain)) (2 ^ 64 - 1)
    → report ≡ report_of size None → size ≤ length old
    → file ≡ header.items ++ payload (record { 0 = file_key }) nonce plain → rest ≡ drop size old
    → Encrypts stanzas file_key nonce plain old (file ++ rest) report 0
encrypts_whole {file_key = f} {nonce = n} {plain = plain} file header size made len short low is reported fits
    written behind =
    grind (arith, chunks_size, file_size (record { 0 = f }) header.items n plain size len short low is)
