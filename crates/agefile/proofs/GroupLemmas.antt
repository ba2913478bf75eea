-- The results of calls on a payload and on its parts, for single chunks and for groups of them.
use Rattle.agefile.proofs.Common.{◌≡◌, ◌∙◌, ℕ, ◌+◌, ◌++◌, List, [], ◌∷◌, length, take, Bool, true, false, sym, ap₂, refl, arith, inl, inr, append_assoc, length-append, Result, Ok, Err, concat, append-nil, take-append_seam, Bytes, sealed_text, StreamFault, chunk_nonce, is_end, sealed_chunks_from, first_fault, outcome, outcomes, plaintext_of, stream_fault, Payload, Report, OpensPiece, PartOpens, PartSeals, Runs, Seals, TakesSome, all_of, unended_chunks, Opened, OpensNext, SealsNext, limits}
use Rattle.agefile.specs.declared.part.Part.{Part}
use Rattle.agefile.specs.Part as part
use Rattle.agefile.proofs.RunLemmas.{fitting, some_code, text_of}

-- ---- any calls

-- R relates each chunk, with its number from i on, to a result; `gave` is these results, joined
abbrev pub Numbered : (R : ℕ → Bytes → Bytes → Type 0) (i : ℕ) (chunks : List Bytes) (gave : Bytes) → Type 0
Numbered R i [] gave = gave ≡ []
Numbered R i (chunk ∷ more) gave =
    (mine : Bytes) × (rest : Bytes) × (gave ≡ mine ++ rest) × R i chunk mine × Numbered R (i + 1) more rest

numbered_append : (R : ℕ → Bytes → Bytes → Type 0) (i j : ℕ) (xs ys : List Bytes) (a b : Bytes) → j ≡ i + length xs
    → Numbered R i xs a → Numbered R j ys b → Numbered R i (xs ++ ys) (a ++ b)
numbered_append R i j [] ys a b at none on = grind arith
numbered_append R i j (x ∷ xs) ys a b at (mine, rest, joined, here, more) on = grind (arith, append_assoc, numbered_append R (i + 1) j xs ys rest b (omega (arith, at)) more on)

-- single calls and groups of calls, if R relates the chunk of each call to its result
module _ (R : Bytes → ℕ → Bytes → Bytes → Type 0) (Call : (old new : Payload) (chunk gave : Bytes) → Type 0)
    (PartCall : (old new : Part) (chunk gave : Bytes) → Type 0)
    (call : (old new : Payload) (chunk gave : Bytes) → Call old new chunk gave
    → R old.key old.number chunk gave × ((new.key ≡ old.key) × (new.number ≡ old.number + 1)))
    (part_call : (old new : Part) (chunk gave : Bytes) → PartCall old new chunk gave
    → R old.key old.number chunk gave × ((new.key ≡ old.key) × (new.number ≡ old.number + 1))) where
  -- the joined results of some chunks, and the payload after them
  abbrev pub Comes : (old new : Payload) (chunks : List Bytes) (gave : Bytes) → Type 0
  Comes old new chunks gave = Numbered (R old.key) old.number chunks gave
      × ((new.key ≡ old.key) × (new.number ≡ old.number + length chunks))

  part_runs : (old new : Part) (chunks : List Bytes) (gave : Bytes) → Runs PartCall old new chunks gave
      → Numbered (R old.key) old.number chunks gave
  part_runs old new [] gave (same, none) = none
  part_runs old new (chunk ∷ more) gave (mid, mine, rest, joined, one, run) =
      let s = part_call old mid chunk mine one in
      (mine, rest, joined, s.0, rw (s.1.0, s.1.1) at (part_runs mid new more rest run))

  some_come : (old new : Payload) (chunks : List Bytes) (gave : Bytes) → TakesSome Call PartCall old new chunks gave
      → Comes old new chunks gave
  some_come old new chunks gave (inl (chunk, single, one)) =
      let s = call old new chunk gave one in
      rw single ((gave, [], sym (append-nil gave), s.0, refl), s.1)
  some_come old new chunks gave (inr (given, used, report, inl (wrong, refused, none), run)) =
      absurd (omega (arith, refused.returned))
  some_come old new chunks gave (inr (given, used, report, inr (may, inl (many, refused, none)), run)) =
      absurd (omega (arith, refused.returned))
  some_come old new chunks gave (inr (given, used, report, inr (may, inr taken), run)) =
      (rw taken.given at (part_runs given used chunks gave run), rw taken.payload (refl, refl))

  pub groups_come : (old new : Payload) (groups : List (List Bytes)) (gave : Bytes)
      → Runs (TakesSome Call PartCall) old new groups gave → Comes old new (all_of groups) gave
  groups_come old new [] gave (same, none) = (none, rw same (refl, omega arith))
  groups_come old new (chunks ∷ more) gave (mid, mine, rest, joined, some, on) =
      let s = some_come old mid chunks mine some in
      let (tail, (key, number)) = groups_come mid new more rest on in (
        rw joined (numbered_append (R old.key) old.number mid.number chunks (all_of more) mine rest s.1.1 s.0
            (rw s.1.0 at tail)),
        (key ∙ s.1.0, omega (arith, number, s.1.1, length-append chunks (all_of more))),
      )

-- a chunk with others after it is not the last
is_end_on : (cs ds : List Bytes) (d : Bytes) → is_end (cs ++ d ∷ ds) ≡ false
is_end_on [] ds d = refl
is_end_on (c ∷ cs) ds d = refl

-- ---- calls that seal

abbrev pub SealsOne : (key : Bytes) (i : ℕ) (text out : Bytes) → Type 0
SealsOne key i text out = out ≡ sealed_text key (chunk_nonce i false) [] text

pub seals_next : (p new : Payload) (text room after : Bytes) (last : Bool) (report : Report) → length room ≡ 16
    → SealsNext p new (text ++ room) after last report 0
    → (after ≡ sealed_text p.key (chunk_nonce p.number last) [] text)
    × ((new.key ≡ p.key) × (new.number ≡ p.number + 1))
seals_next p new text room after last report len step = grind (arith, fitting, text_of)

pub seals_one : (p new : Payload) (text out : Bytes) → Seals p new text out
    → SealsOne p.key p.number text out × ((new.key ≡ p.key) × (new.number ≡ p.number + 1))
seals_one p new text out (room, len, report, step) = seals_next p new text room out false report len step

pub part_seals : (p new : Part) (text out : Bytes) → PartSeals p new text out
    → SealsOne p.key p.number text out × ((new.key ≡ p.key) × (new.number ≡ p.number + 1))
part_seals p new text out (room, len, report, step) =
    let (q, call, is) = fitting step in
    let s = seals_next (part.payload_of p) q text room out false report len call in
    (s.0, rw is (refl, s.1.1))

pub sealed_are : (key : Bytes) (i : ℕ) (texts : List Bytes) (out : Bytes) → Numbered (SealsOne key) i texts out
    → out ≡ concat (unended_chunks key i texts)
sealed_are key i [] out none = none
sealed_are key i (text ∷ more) out (mine, rest, joined, here, on) =
    joined ∙ ap₂ ◌++◌ here (sealed_are key (i + 1) more rest on)

pub sealed_to_end : (key : Bytes) (i j : ℕ) (texts : List Bytes) (out text last : Bytes) → j ≡ i + length texts
    → last ≡ sealed_text key (chunk_nonce j true) [] text → Numbered (SealsOne key) i texts out
    → out ++ last ≡ concat (sealed_chunks_from key i (texts ++ text ∷ []))
sealed_to_end key i j [] out text last at is none = grind (arith, append-nil)
sealed_to_end key i j (t ∷ more) out text last at is (mine, rest, joined, here, on) = grind (arith, is_end_on, append_assoc, sealed_to_end key (i + 1) j more rest text last (omega (arith, at)) is on)

-- ---- calls that open

abbrev pub OpensOne : (key : Bytes) (i : ℕ) (piece text : Bytes) → Type 0
OpensOne key i piece text = outcome key limits.max_chunks i false piece ≡ Ok text

opened_ok : (chunk after : Bytes) (report : Report) (o : Result Bytes StreamFault) → Opened chunk after report 0 o
    → o ≡ Ok (take report.len after)
opened_ok chunk after report (Ok text) (zero_is, reported, buffer) = rw (reported, buffer, take-append_seam) refl
opened_ok chunk after report (Err fault) refused = absurd (some_code (stream_fault fault) (sym refused.returned))

pub opens_next : (p new : Payload) (piece after : Bytes) (last : Bool) (report : Report)
    → OpensNext p new piece after last report 0
    → (outcome p.key limits.max_chunks p.number last piece ≡ Ok (take report.len after))
    × ((new.key ≡ p.key) × (new.number ≡ p.number + 1))
opens_next p new piece after last report step = grind (arith, fitting, opened_ok)

pub opens_one : (p new : Payload) (piece text : Bytes) → OpensPiece p new piece text
    → OpensOne p.key p.number piece text × ((new.key ≡ p.key) × (new.number ≡ p.number + 1))
opens_one p new piece text (after, report, step, is) = rw is (opens_next p new piece after false report step)

pub part_opens : (p new : Part) (piece text : Bytes) → PartOpens p new piece text
    → OpensOne p.key p.number piece text × ((new.key ≡ p.key) × (new.number ≡ p.number + 1))
part_opens p new piece text (after, report, step, is) =
    let (q, call, part_is) = fitting step in
    let s = opens_next (part.payload_of p) q piece after false report call in
    (rw is s.0, rw part_is (refl, s.1.1))

-- if these pieces open and more follow, their texts come before the rest's plaintext and fault
pub goes_on : (key : Bytes) (i j : ℕ) (cs : List Bytes) (text d : Bytes) (ds : List Bytes) → j ≡ i + length cs
    → Numbered (OpensOne key) i cs text
    → (plaintext_of (outcomes key limits.max_chunks i (cs ++ d ∷ ds))
    ≡ text ++ plaintext_of (outcomes key limits.max_chunks j (d ∷ ds)))
    × (first_fault (outcomes key limits.max_chunks i (cs ++ d ∷ ds))
    ≡ first_fault (outcomes key limits.max_chunks j (d ∷ ds)))
goes_on key i j [] text d ds at none = grind arith
goes_on key i j (c ∷ cs) text d ds at (t, rest, joined, is, on) = grind (arith, is_end_on, append_assoc, goes_on key (i + 1) j cs rest d ds (omega (arith, at)) on)
