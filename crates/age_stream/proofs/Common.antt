-- Names that the proofs of this crate cite, re-exported, and lemmas about options and vectors.
pub use Rattle.std.proofs.Common.{Bool, Err, Fits, List, None, Ok, Option, Result, Some, [], ap, append-nil, append_assoc, arith, cond, drop, false, get_or, inl, inr, length, length-append, map, min, nat_eq, nat_le, nat_lt, not, refl, rules, slice_get, slice_index, slice_index_or, slice_set, subst, suc, sym, take, true, zero, ℕ, ◌%◌, ◌&&◌, ◌*◌, ◌++◌, ◌+◌, ◌-◌, ◌/◌, ◌<◌, ◌^◌, ◌↔◌, ◌∙◌, ◌∷◌, ◌≡◌, ◌≤◌, ◌⊎◌, if◌then◌else◌}
pub use Rattle.std.proofs.KnownBytes.{Appends-nil, Appends-trans}
pub use Rattle.std.proofs.Math.Seq.{take-add}
pub use Rattle.std.proofs.lemmas.Bool.{OnFalse_at, OnTrue_at, cases_Bool, cases_lt, eq-eqb, le-leb, le-ltb, leb-false, lt-leb, lt-ltb, true≢false}
pub use Rattle.std.proofs.lemmas.Bool.Decides.{nat_tests}
pub use Rattle.std.proofs.lemmas.Grind.{common_steps}
pub use Rattle.std.proofs.lemmas.List.{drop-append-le, drop-drop, drop_all, drop_at, ext_get_or, get_or-append-add, get_or-drop, get_or-take, get_or_append_left, length-drop, length-replicate, length-take, length-take-le, map-append, nil_from_length, take-append-drop, take-append-le, take-take, take_all, take_at, get_or-map, get_or_past}
pub use Rattle.std.proofs.lemmas.List.Folds.{concat-append}
pub use Rattle.std.proofs.lemmas.List.Sums.{sum_by-cons}
pub use Rattle.std.proofs.lemmas.Option.{get_or_from_slice_get, none-some, slice_get-get_or, slice_get_within}
pub use Rattle.std.specs.Int.{w128}
pub use Rattle.std.specs.Io.KnownBytes.{Appends, IsAtEnd}
pub use Rattle.std.specs.List.{concat, sum_by}
pub use Rattle.std.specs.Prelude.{IfErr, IfNone, IfSome, IsErrOf, ok_or}
pub use Rattle.std.specs.Vec.{with_items}
pub use Rattle.age_cipher.proofs.OpeningLemmas.{length-sealed_text, opened_is, opened_text-sealed_text}
pub use Rattle.age_cipher.specs.Sealing.{opened_text, sealed_text}
pub use Rattle.age_header.proofs.DeviceLemmas.{done_part, gave_more, gave_none, gave_then, of_any, of_ended, of_map, of_more, of_then}
pub use Rattle.age_header.specs.Device.{Flow, Gave, GaveAtMost, GaveSome, Known, OfGiven, Seen, WritesPart, flow, flow_by, move_by, move_of, seen_by}
pub use Rattle.age_header.specs.Filling.{Filled}
pub use Rattle.age_header.specs.declared.file_key.FileKey.{FileKey}
pub use Rattle.age_kdf.specs.Bytes.{Bytes}
pub use Rattle.age_stream.specs.Cutting.{IsCut, cut, cut_after}
pub use Rattle.age_stream.specs.Offsets.{Agrees, GaveAt, StaysGiven}
pub use Rattle.age_stream.specs.Opening.{Advances, EndsAt, GivesNonce, IsAtPiece, IsFilled, Loses, OpenerState, OpensNext, OpensPiece, GivesText, ReadsAhead, ReadsPiece, Starts, WritesAll, WritesReading, held_of, left_of, pieces_left, reading_left}
pub use Rattle.age_stream.specs.Payload.{chunks, each, is_end, payload, pieces, sealed_chunk, sealed_chunks_from}
unfoldable pub use Rattle.age_stream.specs.Payload.{chunk_nonce, payload_key}
pub use Rattle.age_stream.specs.Ranges.{BeginsAt, BeginsRanges, HasPlain, IsOpenFault, IsOpened, IsSound, IsThere, IsVerifiedByte, JudgesLast, OpenedAtLeast, OpensRanges, PieceOpens, RangeState, first_to_open, kept_text, last_index, last_len, sealed_span, source_opening}
pub use Rattle.age_stream.specs.Reader.{StartsReader}
pub use Rattle.age_stream.specs.Reading.{Reading, after_first, first_fault, first_outcome, outcomes, payload_reading, piece_opening, plaintext_of, reading_from, stop, whole}
unfoldable pub use Rattle.age_stream.specs.Reading.{outcome}
pub use Rattle.age_stream.specs.Salvage.{EndsSaving, KnownLosses, Part, Reports, Salvages, SavesParts, SavesPayload, early_after, first_part, in_place, is_whole, is_whole_to, last_saved, latest_early, loss, losses, losses_of, lost_part, opening_or, out_of_place, part, parts, payload_parts, salvaged_text, saved_before, summary, with_part, closed_part, padding}
unfoldable pub use Rattle.age_stream.specs.Salvage.{padded_part}
pub use Rattle.age_stream.specs.Sealing.{Fed, Fills, FinishesBy, IsFed, SealerState, SealsAll, Stopped, StopsIn, TakesAll, WroteAtLeast, at_start, sealed_chunks_after}
pub use Rattle.age_stream.specs.Sizes.{chunk_buf_size, chunk_size, nonce_size, sealed_chunk_size, max_padding}
pub use Rattle.age_stream.specs.Slice.{IsSlice, chunk_len, last_outcome, last_piece, opening, openings, plain_len, range_outcome}
pub use Rattle.age_stream.specs.declared.done.Done.{Done}
pub use Rattle.age_stream.specs.declared.fault.StreamFault.{StreamFault}
pub use Rattle.age_stream.specs.declared.fault.StreamFault.TheVariants.{BadChunk, ChunkShort, EmptyFinal, Memory, NonceTruncated, Read, TooManyChunks, Write}
pub use Rattle.age_stream.specs.declared.layout.Layout.{Layout}
pub use Rattle.age_stream.specs.declared.opening.Piece.{Piece}
pub use Rattle.age_stream.specs.declared.salvaged.LostChunk.{LostChunk}
pub use Rattle.age_stream.specs.declared.salvaged.Salvaged.{Salvaged}
pub use Rattle.age_stream.specs.declared.salvaged.Saved.{Saved}
pub use Rattle.age_stream.specs.declared.salvaged.Saved.TheVariants.{Chunk, Early, LastChunk, Nothing, Zeros, Padded}

pub cases_Option : {A : Type 0} (o : Option A) → ((x : A) × (o ≡ Some x)) ⊎ (o ≡ None)
cases_Option None = inr refl
cases_Option (Some x) = inl (x, refl)

pub when_none : {F P : Type 0} (fault : Option F) → (fault ≡ None → P) → IfNone fault P
when_none None p = p refl
when_none (Some kept) p = tt

pub at_none : {F P : Type 0} {fault : Option F} → fault ≡ None → IfNone fault P → P
at_none none h = rw none at h

-- what a vector has after its slice was written
pub written_all : (new old : Bytes) (n : ℕ) → length new ≡ length old → n ≡ length old
    → take n (new ++ drop (length new) old) ≡ new
written_all new old n e l = grind (arith, drop_all, append-nil, take_all)
