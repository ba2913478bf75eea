-- Names that the proofs of this crate cite, re-exported from one place.
pub use Rattle.std.proofs.Common.{Bool, Err, IfOk, List, None, Ok, Option, Result, Some, [], add-one, ap, append_assoc, arith, cond, drop, false, get_or, inl, inr, length, map, min, not, refl, replicate, rules, slice_index, subst, suc, sym, take, true, zero, ℕ, ◌*◌, ◌++◌, ◌+◌, ◌-◌, ◌/◌, ◌<◌, ◌^◌, ◌↔◌, ◌∙◌, ◌∷◌, ◌≡◌, ◌≤◌, ◌⊎◌}
pub use Rattle.std.proofs.KnownBytes.{Appends-nil, Appends-trans, Consumes-nil, Keeps-refl}
pub use Rattle.std.proofs.lemmas.Bool.{cases_lt, le-ltb, lt-ltb}
pub use Rattle.std.proofs.lemmas.List.{append-nil, drop-drop, drop-map, drop_all, drop_at, drop_more, get_or-append_right, get_or-take, get_or_append_left, length-append, length-drop, length-map, length-take, length-take-le, take-append-drop, take_all, take_at}
pub use Rattle.std.proofs.lemmas.Option.{none-some}
pub use Rattle.std.proofs.lemmas.Result.{err_from_is_err_and}
pub use Rattle.std.proofs.lemmas.Slice.Eq.{bytes_eq-Decides}
pub use Rattle.std.specs.Io.KnownBytes.{Appends, Consumes, IsAtEnd}
pub use Rattle.std.specs.List.{AllZip, concat, list_any, position_from}
pub use Rattle.std.specs.Prelude.{IfErr, IfNone, if◌then◌else◌, option_map, ⊤, ◌&&◌}
pub use Rattle.std.specs.Result.{result_map_both}
pub use Rattle.std.specs.Str.{bytes_eq}
pub use Rattle.age_file.specs.AgeFile.{AgeFile, Bounds, is_mixed, is_scrypt}
pub use Rattle.age_file.specs.Copying.{Copies, CopiesAhead, CopiesPiece, GaveAhead, buffer_size}
pub use Rattle.age_file.specs.Decrypt.{Decrypts, DecryptsText, TookThrough, TookUpTo}
pub use Rattle.age_file.specs.Device.{IsLate, IsNoDeviceFault, is_read}
pub use Rattle.age_file.specs.Inspect.{Inspects, ReadsFront}
pub use Rattle.age_file.specs.NewFile.{BegunFile, EncryptsGiven, FailsHeading, FillsChunk, Gathered, Gathering, Gathers, IsHeading, IsIncompatible, IsNewHeader, TookChunks, TookWhileEncrypting, WrapsAll, gathering_from, with_stanzas}
pub use Rattle.age_file.specs.Ranges.{AtState, BeginsFile, GaveFirst, GaveHeader, IsOpenFault, IsRangeFault, IsWithin, MissesHeader, MissesRanges, RefusesRanges, ranges_under}
pub use Rattle.age_file.specs.Rewrap.{BeginsRewrapped, IsRewrapped, RefusesRewrap, Rewrapped, Rewraps, RewrapsText, TookWhileRewrapping}
pub use Rattle.age_file.specs.Salvage.{SalvagesFile, SalvagesText, SavesAfter, SavesFile, SavesNone, SavesUnder, is_whole_file, salvaged_file}
pub use Rattle.age_file.specs.Verdict.{Answering, IsVerdict, answers_by, finding, found_key, header_fault, header_key, if_right, parts_of, reading_after, reading_under, stream_fault, unlock_fault, with_file_fault}
pub use Rattle.age_file.specs.declared.fault.Fault.{Fault}
pub use Rattle.age_file.specs.declared.fault.Fault.TheVariants.{BadMac, MixedPassphrase, OutOfMemory, Read, Refused, TooManyChunks, Write, NonceTruncated}
pub use Rattle.age_file.specs.declared.limits.Fresh.{Fresh}
pub use Rattle.age_file.specs.declared.salvaging.SalvagedFile.{SalvagedFile}
pub use Rattle.age_header.proofs.DeviceLemmas.{done_more, done_part, done_start, gave_more, gave_none, gave_then, of_any, of_ended, of_known, of_map, of_more, of_then, writes_last}
pub use Rattle.age_header.proofs.HeaderLemmas.{one_text}
pub use Rattle.age_header.proofs.VerdictTotalLemmas.{some_verdict}
pub use Rattle.age_header.proofs.VerdictUniqueLemmas.{begins_found, found_again}
pub use Rattle.age_header.specs.Device.{Bytes, CountsFaultIf, Flow, Gave, GaveAtMost, GaveSome, Gives, Known, Moved, Seen, Took, WritesPart, flow, flow_by, move_by, move_of, seen_by}
pub use Rattle.age_header.specs.Header.{Head, HeaderParts, StanzaParts}
pub use Rattle.age_header.specs.Mac.{header_mac}
pub use Rattle.age_header.specs.Reader.{Refuses}
pub use Rattle.age_header.specs.Verdict.{BeginsWith, Found, HeaderVerdict}
pub use Rattle.age_header.specs.declared.fault.HeaderFault.{HeaderFault}
pub use Rattle.age_header.specs.declared.file_key.FileKey.{FileKey}
pub use Rattle.age_recipient.specs.Choice.{choice}
pub use Rattle.age_recipient.specs.Labels.{MayLabel, first_incompatible, go_together}
pub use Rattle.age_recipient.specs.Wrap.{WrapsAs}
pub use Rattle.age_recipient.specs.declared.choice.UnlockFault.{UnlockFault}
pub use Rattle.age_recipient.specs.declared.choice.UnlockFault.TheVariants.{Memory}
pub use Rattle.age_recipient.specs.declared.labels.Labels.{Labels}
pub use Rattle.age_recipient.specs.declared.labels.Labels.TheVariants.{Alone, Names}
pub use Rattle.age_recipient.specs.declared.recipient.WrapFault.{WrapFault}
pub use Rattle.age_recipient.specs.declared.unwrapped.Unwrapped.{Unwrapped}
pub use Rattle.age_recipient.specs.declared.unwrapped.Unwrapped.TheVariants.{Key}
pub use Rattle.age_stream.proofs.PayloadLemmas.{ok_payload, payload_ok}
pub use Rattle.age_stream.proofs.OpeningLemmas.{starts_reader}
pub use Rattle.age_stream.proofs.SalvageLemmas.{reports_none}
pub use Rattle.age_stream.proofs.SalvageReading.{payload_exactly, payload_plaintext, payload_whole}
pub use Rattle.age_stream.proofs.SealingLemmas.{filled_finishes, filled_seals}
pub use Rattle.age_stream.proofs.WholeSlices.{whole_len, whole_opens, whole_slice, whole_chunk}
pub use Rattle.age_stream.specs.Offsets.{Agrees, EmptyAtEnd, GaveAt, HasOffsets, IsPast, StaysGiven}
pub use Rattle.age_stream.specs.Opening.{EndsAt, OpenerState, Starts, WritesAll, WritesReading}
pub use Rattle.age_stream.specs.Payload.{payload, payload_key, pieces, sealed_chunks}
pub use Rattle.age_stream.specs.Ranges.{BeginsRanges, HasPlain, OpensRanges, RangeState, source_opening}
pub use Rattle.age_stream.specs.Reader.{StartsReader}
pub use Rattle.age_stream.specs.Reading.{Reading, payload_reading, stop, whole}
pub use Rattle.age_stream.specs.Salvage.{EndsSaving, IsOfPieces, KnownLosses, LossesMoved, Part, Reports, Salvages, Saves, SavesParts, SavesPayload, is_whole, losses, losses_by, losses_of, payload_parts, salvaged_text}
pub use Rattle.age_stream.specs.Sealing.{Fills, FinishesBy, SealerState, SealsAll, Stopped, at_start}
pub use Rattle.age_stream.specs.Sizes.{chunk_size, sealed_chunk_size}
pub use Rattle.age_stream.specs.Slice.{IsSlice, plain_len, range_outcome, opening}
pub use Rattle.age_stream.specs.declared.done.Done.{Done}
pub use Rattle.age_stream.specs.declared.fault.StreamFault.{StreamFault}
pub use Rattle.age_stream.specs.declared.salvaged.Salvaged.{Salvaged}
