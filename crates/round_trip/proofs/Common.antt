-- Names that the proofs of this crate cite, re-exported from one place.
pub use Rattle.std.proofs.Common.{Err, List, None, Ok, Option, Result, Some, [], ap, ap₂, arith, drop, get_or, inl, inr, length, map, min, refl, rules, set, subst, sym, take, take-append-drop, ℕ, ◌*◌, ◌++◌, ◌+◌, ◌-◌, ◌/◌, ◌<◌, ◌∙◌, ◌∷◌, ◌≡◌, ◌≤◌}
pub use Rattle.std.proofs.lemmas.Bool.{false≢true}
pub use Rattle.std.proofs.lemmas.Fn.{FoldsTo-push}
pub use Rattle.std.proofs.lemmas.List.{append-nil, drop-drop, drop-set-lt, drop_more, length-take-le, take_more, take_more_set}
pub use Rattle.std.proofs.lemmas.Option.{none-some}
pub use Rattle.std.specs.List.{FoldsTo, zip}
pub use Rattle.std.specs.Prelude.{IfErr}
pub use Rattle.age_file.proofs.OwnLabels.{one_index}
pub use Rattle.age_file.specs.AgeFile.{AgeFile, Bounds, IsBounds, is_mixed}
pub use Rattle.age_file.specs.Decrypt.{Decrypts, DecryptsText}
pub use Rattle.age_file.specs.Device.{is_read}
pub use Rattle.age_file.specs.NewFile.{EncryptsGiven, EncryptsText, Gathered, Gathering, IsRefusal, RefusesFirst}
pub use Rattle.age_file.specs.Verdict.{Answering, IsVerdict}
pub use Rattle.age_file.specs.Words.{Bytes, Done, Known, Labels, Reading, StanzaParts, Unwrapped, whole}
pub use Rattle.age_file.specs.declared.fault.Fault.{Fault}
pub use Rattle.age_file.specs.declared.fault.Fault.TheVariants.{HeaderTooLarge, IncompatibleRecipients, MixedPassphrase, NoRecipients, OutOfMemory, Read, Refused, TooManyChunks, Write}
pub use Rattle.age_file.specs.declared.limits.Fresh.{Fresh}
pub use Rattle.age_header.proofs.DeviceLemmas.{of_known}
pub use Rattle.age_header.specs.Device.{CountsFaultIf, Flow, move_of}
pub use Rattle.age_header.specs.Header.{Head}
pub use Rattle.age_header.specs.Mac.{header_mac}
pub use Rattle.age_header.specs.declared.file_key.FileKey.{FileKey}
pub use Rattle.age_recipient.proofs.HeaderSizeLemmas.{key_header, pass_header}
pub use Rattle.age_recipient.specs.Key.{IsFileKey}
pub use Rattle.age_recipient.specs.KeyedStanza.{keyed_stanza}
pub use Rattle.age_recipient.specs.PassphraseStanza.{pass_stanza}
pub use Rattle.age_stream.proofs.LoadLemmas.{opens_there}
pub use Rattle.age_stream.proofs.RangeLemmas.{slice_there}
pub use Rattle.age_stream.specs.Offsets.{Agrees}
pub use Rattle.age_stream.specs.Ranges.{Fills, IsThere, PieceOpens, RangeParts, RangeState, ReadsRange, range_len, source_opening}
pub use Rattle.age_stream.specs.Sizes.{chunk_size}
pub use Rattle.age_stream.specs.declared.fault.StreamFault.{StreamFault}
pub use Rattle.age_stream.specs.declared.layout.Layout.{Layout}
pub use Rattle.round_trip.specs.Calls.{Answers, FillsKnown, Makes, Touches}
pub use Rattle.round_trip.specs.Losses.{IsLoss, IsMemoryFault, IsUnwritten, none}
pub use Rattle.round_trip.specs.declared.pairs.TripError.{TripError}
pub use Rattle.round_trip.specs.declared.pairs.TripError.TheVariants.{Encrypting}
