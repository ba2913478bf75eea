-- Names that the proofs of this crate cite, re-exported from one place.
pub use Rattle.age_cipher.proofs.OpeningLemmas.{length-sealed_text, opened_text-sealed_text}
pub use Rattle.age_file.proofs.DecryptLemmas.{err_err}
pub use Rattle.age_file.specs.AgeFile.{AgeFile}
pub use Rattle.age_file.specs.Inspect.{Inspects}
pub use Rattle.age_file.specs.Verdict.{finding, if_right, reading_after, reading_under, with_file_fault}
pub use Rattle.age_header.proofs.HeaderLemmas.{one_text, reading}
pub use Rattle.age_header.proofs.LengthLemmas.{length-line, length-version_line}
pub use Rattle.age_header.proofs.DeviceLemmas.{of_known, of_more}
pub use Rattle.age_header.proofs.TextLemmas.{characters_are, stanza_text_is}
pub use Rattle.age_header.proofs.VerdictUniqueLemmas.{begins_found, found_again}
pub use Rattle.age_header.specs.Device.{CountsIf, Flow}
pub use Rattle.age_header.specs.Header.{AreStanzas, Head, IsArgument, version_size}
pub use Rattle.age_header.specs.Mac.{header_mac}
pub use Rattle.age_header.specs.Verdict.{AreLines, BeginsAsAge, Finds, lines_text}
pub use Rattle.age_recipient.proofs.HeaderSizeLemmas.{b64_size, key_header, least_header, pass_header}
pub use Rattle.age_stream.proofs.CuttingLemmas.{AtMost, concat-cut_after, cut_at_most, cut_last, is_cut}
pub use Rattle.age_stream.proofs.PayloadLemmas.{Sized, at_most_chunks, outcome_opens, result_cases}
pub use Rattle.age_stream.proofs.ReadingLemmas.{cut_count, cut_step, is_end_cut}
pub use Rattle.age_stream.specs.Payload.{pieces, sealed_chunks_from}
pub use Rattle.age_stream.specs.Reading.{first_fault, first_outcome, outcomes, payload_reading, plaintext_of, reading_from, stop}
pub use Rattle.agefile.specs.Codes.{code_of, fault_code}
pub use Rattle.agefile.specs.Giving.{Exceeds, Fits, Gives}
pub use Rattle.agefile.specs.Groups.{OpensPiece, OpensRun, PartOpens, PartSeals, Runs, Seals, SealsRun, TakesSome, all_of, unended_chunks}
pub use Rattle.agefile.specs.Heading.{BeginsFile, FindsMac, HasStanzas, MakesHeader, ReadsAs, gathering_of, heading, in_text, lines_in, probe, unless_mixed}
pub use Rattle.agefile.specs.Inspect.{GivesStanzas, HeaderOf, Inspected, InspectsStanzas, arguments_text, list_text, stanza_summary}
pub use Rattle.agefile.specs.Payload.{Opened, OpensNext, SealsAs, SealsNext, after_chunk, before_first, may_seal, phase_reading, phase_writing}
pub use Rattle.age_stream.specs.Ranges.{last_index}
pub use Rattle.agefile.specs.Ranges.{OpensRanges, piece_at, piece_outcome, plain_of}
pub use Rattle.agefile.specs.Report.{Refuses, Returns, Steps, report_of}
pub use Rattle.agefile.specs.Sizes.{IsFront, chunk_count, file_len, front_size, limits, opened_len, plain_len_at_most, sealed_len}
pub use Rattle.agefile.specs.Unlock.{FindsKey, FindsStart, GivesKey, IsKey, IsStart, Opens, StartsAt, Unlocks, by_file_key, gives_key, start_under, with_len}
pub use Rattle.agefile.specs.WholeFiles.{Decrypts, Encrypts, GivesFirst, GivesReading, IsNewFile}
pub use Rattle.agefile.specs.Words.{Answering, BadLine, BadMac, Bytes, Fault, FileKey, Found, Global, HeaderFault, HeaderParts, HeaderTruncated, HeaderVerdict, IsStanza, IsVerdict, MixedPassphrase, NoRecipients, NonceTruncated, NotAge, OutOfMemory, Payload, Reading, Report, StanzaParts, Start, StreamFault, chunk_nonce, chunk_size, chunks, header_fault, header_key, is_end, is_mixed, join_by, line, outcome, parts_of, payload, payload_key, sealed_chunk_size, sealed_text, stream_fault, version_line}
pub use Rattle.agefile.specs.Wrapping.{GivesOwn, refusal_code, words}
pub use Rattle.agefile.specs.declared.ranges.Ranges.{Ranges}
pub use Rattle.std.proofs.Common.{Bool, Err, List, None, Ok, Option, Result, Some, Vec, [], ap, append_assoc, ap₂, arith, codes, cond, drop, false, flat_map, get_or, inl, inr, length, length-append, length-drop, length-take, map, min, nat_le, nat_lt, refl, replicate, subst, suc, sym, take, take-append-drop, true, zero, ℕ, ◌%◌, ◌*◌, ◌++◌, ◌+◌, ◌-◌, ◌/◌, ◌<◌, ◌^◌, ◌∙◌, ◌∷◌, ◌≡◌, ◌≢◌, ◌≤◌, ◌⊎◌}
pub use Rattle.std.proofs.Math.Seq.{drop-append_seam, take-append_seam}
pub use Rattle.std.proofs.lemmas.Bool.{cases_lt, le-leb, le-ltb, lt-leb, lt-ltb}
pub use Rattle.std.proofs.lemmas.List.{append-nil, append_cancel_left, drop-drop, drop-take, drop_at, length-take-le, nil_from_length, take-append-le, take-take, take_all, take_at, take_min}
pub use Rattle.std.specs.List.{AllByRecursion, concat}
pub use Rattle.std.specs.Prelude.{IfOk, String, option_map, slice_index}
pub use Rattle.std.specs.Str.{IsUtf8, bytes_eq}
pub use Rattle.std.specs.String.{string_bytes}
pub use denote.Param.Object.{read_made}
