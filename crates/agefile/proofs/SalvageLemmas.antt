-- The results of salvaging one chunk after another.
use Rattle.agefile.proofs.Common.{◌≡◌, ℕ, ◌+◌, List, [], ◌∷◌, ◌++◌, ◌∙◌, length, take, map, Bool, true, false, refl, arith, inl, inr, take-append_seam, length-append, Option, None, is_end, pieces, before_first, after_chunk, sealed_chunk_size, Bytes, Payload, Report, phase_reading}
use Rattle.agefile.specs.Words.{nat_eq, nat_le}
use Rattle.std.proofs.lemmas.Bool.{ne_eqb}
use Rattle.age_stream.proofs.ReadingLemmas.{is_end_cut}
use Rattle.age_stream.specs.declared.salvaged.LostChunk.{LostChunk}
use Rattle.age_stream.specs.declared.salvaged.Saved.{Saved}
use Rattle.age_stream.specs.declared.salvaged.Saved.TheVariants.{Chunk, LastChunk, Nothing}
use Rattle.age_stream.specs.Salvage.{Part, early_after, is_cut_to, is_whole_to, last_saved, latest_early, loss, losses, part, parts, saved_before, summary}
use Rattle.agefile.specs.Salvage.{Given, SavesAs, SavesRun, damage, detail_of, given_of, judged, noted, saved_number, verdict_of, verdict_to}
use Rattle.agefile.proofs.RunLemmas.{at_chunk, fitting}

-- a payload before chunk i, with these notes of the chunks before it
abbrev pub noting : (key : Bytes) (i damaged before : ℕ) → Payload
noting key i damaged before = record (at_chunk key i phase_reading) { damaged = damaged; before = before }

one_saved : (p new : Payload) (last : Bool) (c after : Bytes) (report : Report) → SavesAs p new last c after report 0
    → ◌≡◌ {A = Given} (record { text = take report.len after; number = report.place })
    (given_of (part p.key p.number last c))
one_saved a b c d e f g = grind (arith, take-append_seam)

saved_detail : (p new : Payload) (last : Bool) (c after : Bytes) (report : Report)
    → SavesAs p new last c after report 0 → report.detail ≡ detail_of p last (part p.key p.number last c).saved
saved_detail a b c d e f g = grind arith

saved_state : (p new : Payload) (last : Bool) (c after : Bytes) (report : Report)
    → SavesAs p new last c after report 0 → new ≡ after_chunk (noted p (part p.key p.number last c).saved) last 0
saved_state p new last c after report (inl (within, gives, state)) = state
saved_state p new last c after report (inr (many, refused, state)) = absurd (omega (arith, refused.returned))

-- what is noted: whether a chunk so far is lost or early, and whether more chunks should follow
damage_same : (saved : Saved) (damaged n i : ℕ) (early : Option ℕ) (x : LostChunk)
    → nat_eq damaged 0 ≡ is_whole_to LastChunk n early
    → nat_eq (damage damaged saved) 0
    ≡ is_whole_to LastChunk (n + length (loss saved x)) (early_after saved i early)
damage_same a b c d e f g = grind (arith, ne_eqb)

next_seen : (saved : Saved) → nat_le (saved_number saved) 1 ≡ is_cut_to Nothing saved
next_seen Chunk = refl
next_seen saved = refl

-- the detail that the last call reports for these parts, after n lost chunks
abbrev pub told : (i n at : ℕ) (early : Option ℕ) (b : Saved) (ps : List Part) → ℕ
told i n at early b ps =
    verdict_to (n + length (losses i at ps)) (latest_early i early ps) (saved_before b ps) (last_saved ps)

last_told : (saved b : Saved) (damaged before i n : ℕ) (early : Option ℕ) (x : LostChunk)
    → nat_eq damaged 0 ≡ is_whole_to LastChunk n early → nat_le before 1 ≡ is_cut_to Nothing b
    → judged saved damaged before ≡ verdict_to (n + length (loss saved x ++ [])) (early_after saved i early) b saved
last_told a b c d e f g h i j = grind arith

next_told : (q r : Part) (i n at : ℕ) (early : Option ℕ) (b : Saved) (more : List Part)
    → told (i + 1) (n + length (loss q.saved (record { chunk = i; start = at; len = length q.text })))
    (at + length q.text) (early_after q.saved i early) q.saved (r ∷ more)
    ≡ told i n at early b (q ∷ r ∷ more)
next_told q r i n at early b more = grind (arith, length-append)

run_judges : (key : Bytes) (i damaged before n at : ℕ) (early : Option ℕ) (b : Saved) (c : Bytes) (more : List Bytes)
    (given : List Given) (detail : ℕ) → nat_eq damaged 0 ≡ is_whole_to LastChunk n early
    → nat_le before 1 ≡ is_cut_to Nothing b → SavesRun (noting key i damaged before) (c ∷ more) given detail
    → detail ≡ told i n at early b (parts key i (c ∷ more))
run_judges key i damaged before n at early b c [] given detail same seen
    (new, after, report, step, rest, is, ends, run) = grind (arith, saved_detail, fitting, last_told)
run_judges key i damaged before n at early b c (d ∷ more) given detail same seen
    (new, after, report, step, rest, is, ends, run) =
    let q : Part = part key i false c in
    let x : LostChunk = record { chunk = i; start = at; len = length q.text } in
    let state = saved_state (noting key i damaged before) new false c after report (fitting step) in
    run_judges key (i + 1) (damage damaged q.saved) (saved_number q.saved) (n + length (loss q.saved x))
    (at + length q.text) (early_after q.saved i early) q.saved d more rest detail
    (damage_same q.saved damaged n i early x same) (next_seen q.saved) (rw state at run)
    ∙ next_told q (part key (i + 1) (is_end more) d) i n at early b (parts key (i + 1 + 1) more)

run_saves : (key : Bytes) (i damaged before : ℕ) (cs : List Bytes) (given : List Given) (detail : ℕ)
    → SavesRun (noting key i damaged before) cs given detail → given ≡ map given_of (parts key i cs)
run_saves key i damaged before [] given detail run = run
run_saves key i damaged before (c ∷ []) given detail (new, after, report, step, rest, is, ends, run) =
    rw (is, run, one_saved (noting key i damaged before) new true c after report (fitting step)) refl
run_saves key i damaged before (c ∷ d ∷ more) given detail (new, after, report, step, rest, is, ends, run) =
    let q : Part = part key i false c in
    let state = saved_state (noting key i damaged before) new false c after report (fitting step) in
    let next = run_saves key (i + 1) (damage damaged q.saved) (saved_number q.saved) (d ∷ more) rest detail
    (rw state at run) in
    rw (is, one_saved (noting key i damaged before) new false c after report (fitting step), next) refl

all_saved : (key : Bytes) (cs : List Bytes) (given : List Given) (detail : ℕ) → is_end cs ≡ false
    → SavesRun (before_first key phase_reading) cs given detail
    → (given ≡ map given_of (parts key 0 cs)) × (detail ≡ verdict_of (summary (parts key 0 cs)))
all_saved key [] given detail some run = absurd (cc)
all_saved key (c ∷ more) given detail some run = grind (arith, run_saves key 0 0 0 (c ∷ more) given detail run, run_judges key 0 0 0 0 0 None Chunk c more given detail refl refl run)

pub steps_save : (key rest : Bytes) (given : List Given) (detail : ℕ)
    → SavesRun (before_first key phase_reading) (pieces rest) given detail
    → (given ≡ map given_of (parts key 0 (pieces rest)))
    × (detail ≡ verdict_of (summary (parts key 0 (pieces rest))))
steps_save key rest given detail run =
    all_saved key (pieces rest) given detail (is_end_cut sealed_chunk_size [] rest) run
