-- Names that the proofs of this crate cite, re-exported from one place.
pub use Rattle.age_commands.specs.Inspect.{Inspecting, InspectsText, IsShown, IsTable, OfShown, check_of, first_lines, last_lines, row, rows, spaced_arguments}
pub use Rattle.age_commands.specs.Range.{IsPartFault, OfBytes, RangingAny, WritesAny, WritesBytes, WritesVerified}
pub use Rattle.age_commands.specs.Secret.{answers_of, gathering_of, guesses_of, keys_unwrap, labels_of, limits_of, passes_unwrap, recipient_of, wraps_of}
pub use Rattle.age_commands.specs.Task.{Encrypting, OfKnown, Performs, SalvagesAll, if_whole}
pub use Rattle.age_commands.specs.Words.{Answering, BadChunk, Bounds, Bytes, Fault, Flow, Head, HeaderParts, IfSome, Job, Known, Moved, OfGiven, OutOfMemory, StanzaParts, Took, Write, WritesPart, codes, header_fault, ⊤, ◌&&◌, ◌≢◌, Consumes}
pub use Rattle.age_commands.specs.declared.task.Task.TheVariants.{Decrypt, Encrypt, Inspect, Range, Rewrap, Salvage}
pub use Rattle.age_file.specs.Device.{IsLate, IsQuiet, is_write}
pub use Rattle.age_file.specs.Ranges.{BeginsFile, IsOpenFault}
pub use Rattle.age_file.specs.Salvage.{SalvagesFile, SalvagesText, is_whole_file}
pub use Rattle.age_file.specs.Verdict.{stream_fault}
pub use Rattle.age_file.specs.declared.salvaging.SalvagedFile.{SalvagedFile}
pub use Rattle.age_header.proofs.DeviceLemmas.{gave_none, of_all, of_any, of_map, of_more}
pub use Rattle.age_header.specs.Device.{CountsFaultIf, CountsIf, Seen, flow, move_by, move_of}
pub use Rattle.age_job.specs.declared.secret.Secret.{Secret}
pub use Rattle.age_recipient.specs.Answer.{decision_from}
pub use Rattle.age_recipient.specs.KeyedHolders.{key_unwraps}
pub use Rattle.age_recipient.specs.KeyedStanza.{keyed_stanza}
pub use Rattle.age_recipient.specs.PassphraseHolders.{pass_unwraps}
pub use Rattle.age_stream.proofs.SalvageLemmas.{reports_none}
pub use Rattle.age_stream.specs.Offsets.{StaysGiven}
pub use Rattle.age_stream.specs.Ranges.{IsVerifiedByte, RangeState, Stops, range_len}
pub use Rattle.age_stream.specs.Salvage.{KnownLosses, LossesMoved, is_whole_to, losses_of}
pub use Rattle.age_stream.specs.Sizes.{chunk_size}
pub use Rattle.age_stream.specs.declared.fault.StreamFault.{StreamFault}
pub use Rattle.age_stream.specs.declared.layout.Layout.{Layout}
pub use Rattle.std.proofs.Common.{Bool, Err, IfOk, List, None, Ok, OnOk, Option, Result, Some, [], ap, arith, cond, drop, false, get_or, inl, inr, length, map, min, refl, rules, slice_index, slice_index_or, subst, sym, take, take_all, true, ℕ, ◌%◌, ◌*◌, ◌++◌, ◌+◌, ◌-◌, ◌<◌, ◌^◌, ◌∙◌, ◌∷◌, ◌≡◌, ◌≤◌, ◌⊎◌}
pub use Rattle.std.proofs.KnownBytes.{Appends-nil, Appends-trans, Consumes-kept, Consumes-nil, Consumes-trans, Consumes-whole, Keeps-refl}
pub use Rattle.std.proofs.lemmas.List.{append-nil, append_assoc, get_or-append-add, get_or-take, get_or_append_left, get_or_default, length-append, length-take, length-take-le, map_push, take-append-le, take_more}
pub use Rattle.std.specs.Io.KnownBytes.{Appends, IsAtEnd, Keeps}
pub use Rattle.std.specs.Prelude.{is_some}
