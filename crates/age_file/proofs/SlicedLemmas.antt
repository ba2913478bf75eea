-- Ranges of a file whose verdict has no fault.
use Rattle.age_file.proofs.Common.{arith, ◌≡◌, ◌⊎◌, ℕ, length, take, drop, sym, ◌∙◌, ap, subst, inl, inr, Option, Some, Result, Ok, Err, drop-drop, Bytes, HeaderFault, Found, FileKey, HasPlain, RangeState, payload_reading, whole, IsSlice, plain_len, whole_len, whole_opens, whole_slice, Fault, OutOfMemory, Read, Bounds, Agrees, BeginsFile, finding, IsRangeFault, MissesRanges, ranges_under, Answering, IsVerdict, header_fault, reading_after, parts_of, reading_under, header_key, ◌*◌, ◌<◌, payload_key, source_opening, chunk_size, opening, whole_chunk}
use Rattle.age_stream.specs.declared.layout.Layout.{Layout}
use Rattle.age_stream.proofs.JudgesLastLemmas.{opened_there}
use Rattle.age_file.proofs.RangeLemmas.{header_known}
use Rattle.age_file.proofs.FileLemmas.{never_stops, verdict_after, with_file_fault_whole}

-- a payload that reads whole opens for ranges
none_under : (limits : Bounds) (rest p : Bytes) (fault : Fault) (c : Result FileKey Fault)
    → whole p ≡ reading_under limits rest c → ranges_under limits rest c ≡ Err fault → ⊥
none_under limits rest p fault (Err g) h is = never_stops p g h
none_under limits rest p fault (Ok k) h is = grind (arith, whole_opens k rest p limits.max_chunks (with_file_fault_whole h), with_file_fault_whole h)

none_judged : (limits : Bounds) (answers : Answering) (b p : Bytes) (fault : Fault) (r : Result Found HeaderFault)
    → whole p ≡ reading_after limits answers b r → IsRangeFault limits answers b r fault → ⊥
none_judged limits answers b p fault (Err e) h is = never_stops p (header_fault e) h
none_judged limits answers b p fault (Ok found) h is =
    none_under limits (drop (length found.text) b) p fault (header_key answers (parts_of found)) h is

-- the only faults of opening a file without fault are a failed read and out of memory
pub file_opens : (limits : Bounds) (answers : Answering) (b p : Bytes) (fault : Fault)
    → IsVerdict limits answers b (whole p) → MissesRanges limits answers (Some b) fault
    → (fault ≡ Read) ⊎ (fault ≡ OutOfMemory)
file_opens limits answers b p fault v (inl e) = inl e
file_opens limits answers b p fault v (inr (inl e)) = inr e
file_opens limits answers b p fault v (inr (inr m)) =
    absurd (none_judged limits answers b p fault m.0 (verdict_after m.0 v m.1) m.2)

-- b's payload reads whole as p; the layout has its key, p's length, and the offset of its pieces
record IsWholeUnder (max : ℕ) (b p : Bytes) (layout : Layout) : Type 0 where
  key : FileKey
  rest : Bytes
  reads : payload_reading key max rest ≡ whole p
  plain : layout.plain ≡ plain_len (drop 16 rest)
  chunk_key : layout.key ≡ payload_key key (take 16 rest)
  sealed : drop layout.first b ≡ drop 16 rest

module _ (limits : Bounds) (answers : Answering) (b p : Bytes) (chunks : RangeState) {gave : ℕ → ℕ → Type 0}
    {size : Option ℕ} (agrees : Agrees b gave size) (v : IsVerdict limits answers b (whole p))
    (f : BeginsFile limits answers gave size chunks) where
  whole_under : IsWholeUnder limits.max_chunks b p chunks.layout
  whole_under =
      let opened = opened_there b f.key limits.max_chunks f.at chunks agrees f.begins in
      let found : Found = finding f.first.text f.header in
      record {
        key = f.key;
        rest = drop f.at b;
        reads = with_file_fault_whole (verdict_after (Ok found) v (header_known b agrees f.first)
            ∙ ap (λ n. reading_under limits (drop n b) (header_key answers f.header)) f.first.len
            ∙ ap (reading_under limits (drop f.at b)) f.chosen);
        plain = opened.plain ∙ ap plain_len (sym (drop-drop 16 f.at b));
        chunk_key = opened.key;
        sealed = ap (λ m. drop m b) opened.first ∙ sym (drop-drop 16 f.at b);
      }

  pub file_has_len : chunks.layout.plain ≡ length p
  file_has_len = let w = whole_under in w.plain ∙ whole_len w.key w.rest p limits.max_chunks w.reads

  pub file_slice : (at : ℕ) (xs : Bytes) → HasPlain (Some b) chunks.layout at xs → xs ≡ take (length xs) (drop at p)
  file_slice at xs s =
      let w = whole_under in
      whole_slice w.key w.rest p xs limits.max_chunks at w.reads
      (subst (λ k. IsSlice k (drop 16 w.rest) at xs) w.chunk_key
      (subst (λ t. IsSlice chunks.layout.key t at xs) w.sealed s))

  pub file_chunk : (i : ℕ) → chunk_size * i < length p
      → source_opening (Some b) chunks.layout i ≡ Some (take chunk_size (drop (chunk_size * i) p))
  file_chunk i less =
      let w = whole_under in
      ap (λ t. opening chunks.layout.key t i) w.sealed ∙ ap (λ k. opening k (drop 16 w.rest) i) w.chunk_key
      ∙ whole_chunk w.key w.rest p limits.max_chunks i w.reads less
