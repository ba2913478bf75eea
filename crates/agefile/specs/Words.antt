-- Names for the files of this crate to import, re-exported in one place.
pub use Rattle.age_cipher.specs.Bytes.{tag_size}
pub use Rattle.age_cipher.specs.Sealing.{sealed_text}
pub use Rattle.age_file.specs.AgeFile.{Bounds, default_max_header, is_mixed}
pub use Rattle.age_file.specs.Verdict.{Answering, IsVerdict, header_fault, header_key, parts_of, stream_fault}
pub use Rattle.age_file.specs.declared.fault.Fault.{Fault}
pub use Rattle.age_file.specs.declared.fault.Fault.TheVariants.{BadChunk, BadLine, BadMac, ChunkShort, EmptyFinal, HeaderTooLarge, HeaderTruncated, IncompatibleRecipients, Malformed, MixedPassphrase, NoMatch, NoRecipients, NonceTruncated, NotAge, OutOfMemory, Read, Refused, TooManyChunks, Write, WrongKey}
pub use Rattle.age_header.specs.Header.{AreArguments, HeaderParts, IsStanza, StanzaParts, line, version_line}
pub use Rattle.age_header.specs.Verdict.{Found, HeaderVerdict}
pub use Rattle.age_header.specs.declared.fault.HeaderFault.{HeaderFault}
pub use Rattle.age_header.specs.declared.file_key.FileKey.{FileKey}
pub use Rattle.age_kdf.specs.Bytes.{Bytes}
pub use Rattle.age_recipient.specs.declared.unwrapped.Unwrapped.{Unwrapped}
pub use Rattle.age_stream.specs.Payload.{chunk_nonce, chunks, is_end, payload, payload_key}
pub use Rattle.age_stream.specs.Reading.{Reading, outcome}
pub use Rattle.age_stream.specs.Sizes.{chunk_size, nonce_size, sealed_chunk_size}
pub use Rattle.age_stream.specs.declared.fault.StreamFault.{StreamFault}
pub use Rattle.agefile.specs.declared.part.Part.{Part}
pub use Rattle.agefile.specs.declared.payload.Payload.{Payload}
pub use Rattle.agefile.specs.declared.report.Report.{Report}
pub use Rattle.agefile.specs.declared.start.Start.{Start}
pub use Rattle.std.specs.Global.{Global}
pub use Rattle.std.specs.List.{count_by, join_by, slice_split}
pub use Rattle.std.specs.Prelude.{Bool, Err, List, None, Ok, Option, Result, Some, Vec, [], codes, drop, false, flat_map, if◌then◌else◌, length, map, min, nat_eq, nat_le, nat_lt, replicate, take, true, ℕ, ◌%◌, ◌&&◌, ◌*◌, ◌++◌, ◌+◌, ◌-◌, ◌/◌, ◌<◌, ◌==◌, ◌^◌, ◌||◌, ◌∷◌, ◌≡◌, ◌≢◌, ◌≤◌, ◌⊎◌}
