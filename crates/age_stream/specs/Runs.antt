-- Runs of consecutive lost chunks.
use Rattle.std.specs.Prelude.{◌+◌, List, [], ◌∷◌, nat_eq, Option, Some, None, if◌then◌else◌}
use Rattle.age_stream.specs.declared.runs.LostRun.{LostRun}
use Rattle.age_stream.specs.declared.salvaged.LostChunk.{LostChunk}

-- the run of a single chunk
abbrev pub run_of : (chunk : LostChunk) → LostRun
run_of chunk = record {
  first = chunk.chunk;
  last = chunk.chunk;
  start = chunk.start;
  end = chunk.start + chunk.len;
}

-- two consecutive runs as one
abbrev pub span : (run next : LostRun) → LostRun
span run next =
    record { first = run.first; last = next.last; start = run.start; end = next.end }

-- a run put before others, and joined with the first of them if no chunk is between the two
abbrev pub runs_from : (run : LostRun) (runs : List LostRun) → List LostRun
runs_from run [] = run ∷ []
runs_from run (next ∷ more) =
    if nat_eq next.first (run.last + 1) then span run next ∷ more else run ∷ next ∷ more

-- the runs of these chunks
abbrev pub runs : List LostChunk → List LostRun
runs [] = []
runs (chunk ∷ more) = runs_from (run_of chunk) (runs more)

-- these runs after an earlier run, if there is one; the first of these may continue it
abbrev pub runs_after : (run : Option LostRun) (runs : List LostRun) → List LostRun
runs_after None runs = runs
runs_after (Some run) runs = runs_from run runs
