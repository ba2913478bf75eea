-- The state of a sealer of chunks between two calls, and the results of its calls.
use Rattle.std.specs.Prelude.{ℕ, List, [], ◌++◌, ◌≡◌, ◌⊎◌, ◌≤◌, ◌<◌, ◌+◌, ◌-◌, ◌*◌, length, take, drop, Bool, true, false, MatchResult, Option, Some, None, Result, Ok, Err}
use Rattle.std.specs.Io.KnownBytes.{IsAtEnd}
use Rattle.std.specs.List.{concat}
use Rattle.age_stream.specs.Words.{Bytes, Key, sealed_text, Flow, GaveAtMost, GaveSome, OfGiven, WritesPart, Moved, Gave, Took, Done, StreamFault, Read, Write, TooManyChunks, chunk_size, sealed_chunk_size}
use Rattle.age_stream.specs.Cutting.{cut_after}
use Rattle.age_stream.specs.Payload.{chunk_nonce, sealed_chunks_from}

-- a sealer: its key and limit, the number of the next chunk, the text that it holds of that chunk,
-- and the fault that it keeps
pub record SealerState : Type 0 where
  pub key : Key
  pub max_chunks : ℕ
  pub index : ℕ
  pub held : Bytes
  pub fault : Option StreamFault

-- before chunk 0
abbrev pub at_start : (key : Key) (max : ℕ) → SealerState
at_start key max = record { key = key; max_chunks = max; index = 0; held = []; fault = None }

-- the sealed chunks from number i on, if `held` is held and `text` follows
abbrev pub sealed_chunks_after : (key : Key) (i : ℕ) (held text : Bytes) → List Bytes
sealed_chunks_after key i held text = sealed_chunks_from key i (cut_after chunk_size held text)

-- the rest of the output of a sealer if `text` follows
abbrev pub sealed_rest : (s : SealerState) (text : Bytes) → Bytes
sealed_rest s text = concat (sealed_chunks_after s.key s.index s.held text)

-- A sealer that held `held` before chunk i took `text`, and now holds `now` before chunk j. The
-- sealed chunks `gone` were written. Whatever `more` follows, all sealed chunks are `gone` and then
-- those of the new state.
pub record Fed (key : Key) (i j : ℕ) (held text now : Bytes) (sink : Moved) : Type 0 where
  pub gone : List Bytes
  pub count : j ≡ i + length gone
  pub size : length (concat gone) ≡ sealed_chunk_size * length gone
  pub bytes : length held + length text ≡ chunk_size * length gone + length now
  pub written : Took sink (concat gone)
  pub chunks : (more : Bytes)
      → sealed_chunks_after key i held (text ++ more) ≡ gone ++ sealed_chunks_after key j now more

-- at least n bytes were written
abbrev pub WroteAtLeast : (n : ℕ) (sink : Moved) → Type 0
WroteAtLeast n sink = (text : Bytes) × Took sink text × (n ≤ length text)

-- The output before a fault, if `text` was to follow: a prefix of the sealed chunks if a device
-- failed; if there are more than `max` chunks, those numbered below `max` - 1.
abbrev pub StopsIn : (key : Key) (max i : ℕ) (held text : Bytes) (sink : Moved)
    (fault : StreamFault) → Type 0
StopsIn key max i held text sink Read = WritesPart sink (concat
    (sealed_chunks_after key i held text))
StopsIn key max i held text sink Write = WritesPart sink (concat
    (sealed_chunks_after key i held text))
StopsIn key max i held text sink TooManyChunks =
    (max < i + length (cut_after chunk_size held text))
    × Took sink (concat (take (max - 1 - i) (sealed_chunks_after key i held text)))
StopsIn key max i held text sink _ = ⊥

-- the text that the source returned was taken after what the sealer held
pub record IsFed (key : Key) (i j : ℕ) (held now : Bytes) (source : Flow)
    (sink : Moved) : Type 0 where
  pub text : Bytes
  pub took : Gave source text
  pub fed : Fed key i j held text now sink

-- a fault occurred when chunk j was the next to be written: at least the chunks before it were
-- written, and unless a read failed, the source was read at most up to one byte after chunk j
pub record Stopped (key : Key) (max i j : ℕ) (held : Bytes) (source : Flow) (sink : Moved)
    (fault : StreamFault) : Type 0 where
  pub stops : OfGiven source (λ text. StopsIn key max i held text sink fault)
  pub wrote : WroteAtLeast (sealed_chunk_size * (j - i)) sink
  pub gave : (fault ≡ Read) ⊎ GaveAtMost (chunk_size * (j + 1 - i) + 1 - length held) source

-- a sealer read until it held a full chunk, and the source may have more; or until the end of the
-- source; or a read failed, and the sealer keeps this fault
abbrev pub Fills : (s t : SealerState) (source : Flow) (result : Result Bool StreamFault) → Type 0
Fills s t source (Ok more) =
    (text : Bytes) × Gave source text × (t ≡ record s { held = s.held ++ text })
    × (length t.held ≤ chunk_size) × (more ≡ true → length t.held ≡ chunk_size)
    × (more ≡ false → IsAtEnd source.after.to_come)
Fills s t source (Err fault) =
    (fault ≡ Read) × GaveSome source × (t.key ≡ s.key) × (t.max_chunks ≡ s.max_chunks)
    × (t.fault ≡ Some Read)

-- a sealer that keeps no fault read the source to its end, or stopped at a fault
abbrev pub TakesAll : {A : Type 0} (s t : SealerState) (source : Flow) (sink : Moved)
    (r : Result A StreamFault) → Type 0
TakesAll s t source sink r =
    (t.key ≡ s.key) × (t.max_chunks ≡ s.max_chunks)
    × MatchResult r
    (λ _. (t.fault ≡ None) × (length t.held ≤ chunk_size) × (t.index < t.max_chunks)
    × IsFed s.key s.index t.index s.held t.held source sink × IsAtEnd source.after.to_come)
    (λ fault. (t.fault ≡ Some fault)
    × Stopped s.key s.max_chunks s.index t.index s.held source sink fault)

-- the last chunk was written, or a prefix of it
abbrev pub FinishesBy : (s : SealerState) (sink : Moved) (result : Result Done StreamFault) → Type 0
FinishesBy s sink (Ok done) =
    Took sink (sealed_rest s []) × (done.bytes ≡ chunk_size * s.index + length s.held)
    × (done.chunks ≡ s.index + 1)
FinishesBy s sink (Err fault) = (fault ≡ Write) × WritesPart sink (sealed_rest s [])

-- a sealer that keeps no fault sealed and wrote the whole source; or a fault occurred
abbrev pub SealsAll : (s : SealerState) (source : Flow) (sink : Moved)
    (result : Result Done StreamFault) → Type 0
SealsAll s source sink (Ok done) =
    OfGiven source (λ text. Took sink (sealed_rest s text)
    × (s.index + length (cut_after chunk_size s.held text) ≤ s.max_chunks)
    × (done.bytes ≡ chunk_size * s.index + length s.held + length text)
    × (done.chunks ≡ s.index + length (cut_after chunk_size s.held text)))
SealsAll s source sink (Err fault) =
    (chunk : ℕ) × Stopped s.key s.max_chunks s.index chunk s.held source sink fault

-- the full chunk at the start of the buffer was written as chunk i, and the byte after it was moved
-- to the start; or the write failed, or the limit allows no chunk after chunk i
abbrev pub PutsFull : {A : Type 0} (key : Key) (max i j : ℕ) (bytes after : Bytes) (sink : Moved)
    (r : Result A StreamFault) → Type 0
PutsFull key max i j bytes after sink r =
    MatchResult r
    (λ _. (j ≡ i + 1) × Took sink (sealed_text key (chunk_nonce i false) [] (take chunk_size bytes))
    × (take 1 after ≡ take 1 (drop chunk_size bytes)))
    (λ fault. (j ≡ i)
    × (((fault ≡ Write)
    × WritesPart sink (sealed_text key (chunk_nonce i false) [] (take chunk_size bytes)))
    ⊎ ((fault ≡ TooManyChunks) × (max ≤ i + 1) × Took sink [])))
