-- Names of other files and crates, re-exported for the files of this crate.
pub use Rattle.age_kdf.specs.Bytes.{Bytes}
pub use Rattle.age_cipher.specs.Bytes.{Key, Nonce}
pub use Rattle.age_cipher.specs.Sealing.{opened_text, sealed_text}
pub use Rattle.age_header.specs.Device.{CountsFaultIf, CountsIf, Flow, Gave, GaveAtMost, GaveSome, Known, Moved, OfGiven, Seen, Took, WritesPart, flow, flow_by, move_by, move_of, seen_by}
pub use Rattle.age_header.specs.declared.file_key.FileKey.{FileKey}
pub use Rattle.age_stream.specs.declared.done.Done.{Done}
pub use Rattle.age_stream.specs.declared.fault.StreamFault.{StreamFault}
pub use Rattle.age_stream.specs.declared.fault.StreamFault.TheVariants.{BadChunk, ChunkShort, EmptyFinal, Memory, NonceTruncated, Read, TooManyChunks, Write}
pub use Rattle.age_stream.specs.declared.layout.Layout.{Layout}
pub use Rattle.age_stream.specs.Sizes.{chunk_buf_size, chunk_size, most_chunks, nonce_size, sealed_chunk_size, tag_size}
