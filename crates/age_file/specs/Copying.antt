-- Copying the rest of a source.
use Rattle.std.specs.Prelude.{◌≡◌, ◌⊎◌, ℕ, ◌+◌, ◌^◌, ◌≤◌, Bool, true, false, length, Result, Ok, Err}
use Rattle.std.specs.Io.KnownBytes.{IsAtEnd}
use Rattle.age_header.specs.Device.{Bytes, Flow, GaveSome, OfGiven, WritesPart, Moved, Gave, Took}
use Rattle.age_stream.specs.Sealing.{WroteAtLeast}
use Rattle.age_file.specs.declared.fault.Fault.{Fault}
use Rattle.age_file.specs.declared.fault.Fault.TheVariants.{TooManyChunks, Read, Write}

-- the greatest number of bytes that are read and written at once
abbrev pub buffer_size : ℕ
buffer_size = 65536

-- the fewest bytes after which a copy gives up, more than any payload has
abbrev pub most_copied : ℕ
most_copied = 2 ^ 105

-- a full piece of this length was copied, or the rest of the source was; or a device failed
abbrev pub CopiesPiece : (size : ℕ) (source : Flow) (sink : Moved) (result : Result Bool Fault)
    → Type 0
CopiesPiece size source sink (Ok true) =
    (piece : Bytes) × Gave source piece × Took sink piece × (length piece ≡ size)
CopiesPiece size source sink (Ok false) =
    (piece : Bytes) × Gave source piece × Took sink piece × IsAtEnd source.after.to_come
CopiesPiece size source sink (Err Read) = GaveSome source × (sink.after ≡ sink.before)
CopiesPiece size source sink (Err Write) =
    (piece : Bytes) × Gave source piece × WritesPart sink piece × (length piece ≤ size)
CopiesPiece size source sink (Err _) = ⊥

-- everything was copied, or on a fault a prefix of it; on `TooManyChunks` at least 2^105 bytes were
-- written
abbrev pub Copies : (source : Flow) (sink : Moved) (result : Result (Unit {0}) Fault) → Type 0
Copies source sink (Ok done) = OfGiven source (λ bytes. Took sink bytes)
Copies source sink (Err Read) = OfGiven source (λ bytes. WritesPart sink bytes)
Copies source sink (Err Write) = OfGiven source (λ bytes. WritesPart sink bytes)
Copies source sink (Err TooManyChunks) =
    WroteAtLeast most_copied sink
    × OfGiven source (λ bytes. WritesPart sink bytes × (most_copied ≤ length bytes))
Copies source sink (Err _) = ⊥

-- the source returned at most n bytes more than were written
pub record GaveAhead (n : ℕ) (source : Flow) (sink : Moved) : Type 0 where
  pub given : Bytes
  pub gave : Gave source given
  pub written : Bytes
  pub took : Took sink written
  pub within : length given ≤ length written + n

-- how much of the source was read if a copy failed; of a failed read nothing is said
abbrev pub CopiesAhead : (source : Flow) (sink : Moved) (fault : Fault) → Type 0
CopiesAhead source sink fault = (fault ≡ Read) ⊎ GaveAhead buffer_size source sink
