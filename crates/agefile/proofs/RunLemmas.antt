-- Opening one chunk after another: the results. Sealing one chunk after another: the file written.
use Rattle.agefile.proofs.Common.{◌≡◌, ◌≢◌, ◌⊎◌, ℕ, ◌+◌, ◌-◌, ◌<◌, ◌≤◌, List, [], ◌∷◌, ◌++◌, length, take, Bool, true, false, sym, refl, arith, inl, inr, append_assoc, length-append, Result, Ok, Err, option_map, concat, le-leb, lt-ltb, take_at, take-append_seam, Bytes, StreamFault, chunks, is_end, payload_key, pieces, sealed_chunks_from, first_fault, outcome, outcomes, plaintext_of, sealed_chunk_size, AtMost, cut_at_most, Sized, at_most_chunks, Fault, NotAge, stream_fault, Payload, Report, code_of, fault_code, OpensRun, SealsRun, BeginsFile, Opened, SealsAs, after_chunk, before_first, may_seal, phase_reading, phase_writing, Steps, report_of, limits, IsNewFile}

-- no fault has the code 0
pub some_code : (f : Fault) → fault_code f ≡ 0 → ⊥
some_code NotAge e = absurd (omega arith)
some_code fault e = absurd (omega arith)

-- a call that returned 0 fits the state, so `does` holds
pub fitting : {fits : Bool} {S does : Type 0} {old new : S} {chunk after : Bytes} {report : Report}
    → Steps fits does old new chunk after report 0 → does
fitting {fits = true} step = step.done
fitting {fits = false} step = let bad : ◌≡◌ {A = ℕ} 0 23 = step.out_of_order.0.returned in absurd (omega arith)

-- if a call fits the state, `does` holds
does_so : {fits : Bool} {S does : Type 0} {old new : S} {chunk after : Bytes} {report : Report} {code : ℕ}
    → fits ≡ true → Steps fits does old new chunk after report code → does
does_so {fits = true} e step = step.done
does_so {fits = false} e step = cc

-- a payload before chunk i
abbrev pub at_chunk : (key : Bytes) (i phase : ℕ) → Payload
at_chunk key i phase = record (before_first key phase) { number = i }

-- ---- calls that open

-- the results of these outcomes: texts before any fault, joined; the fault's code and place, or 0
abbrev pub IsReadAs : (os : List (Result Bytes StreamFault)) (text : Bytes) (code place : ℕ) → Type 0
IsReadAs os text code place =
    (text ≡ plaintext_of os) × ((code ≡ code_of (option_map stream_fault (first_fault os)))
    × (place ≡ (report_of 0 (option_map stream_fault (first_fault os))).place))

-- one call and the calls after it
read_on : (p new : Payload) (last : Bool) (more : List Bytes) (chunk after text : Bytes) (report : Report)
    (step code place : ℕ) (o : Result Bytes StreamFault) (os : List (Result Bytes StreamFault))
    → Opened chunk after report step o → new ≡ after_chunk p last step
    → ((rest : Bytes) → OpensRun (after_chunk p last 0) more rest code place → IsReadAs os rest code place)
    → ((step ≡ 0) × ((rest : Bytes) × (text ≡ take report.len after ++ rest) × OpensRun new more rest code place))
    ⊎ ((step ≢ 0) × ((text ≡ []) × ((code ≡ step) × (place ≡ report.place))))
    → IsReadAs (o ∷ os) text code place
read_on p new last more chunk after text report step code place o os opened state next on =
    grind (arith, take-append_seam)

run_reads : (key : Bytes) (i : ℕ) (cs : List Bytes) (text : Bytes) (code place : ℕ) → AtMost sealed_chunk_size cs
    → OpensRun (at_chunk key i phase_reading) cs text code place
    → IsReadAs (outcomes key limits.max_chunks i cs) text code place
run_reads key i [] text code place sizes run = absurd sizes
run_reads key i (c ∷ []) text code place sizes (new, after, report, step_code, step, on) =
    let (opens, state) = does_so (le-leb (length c) sealed_chunk_size sizes) step in
    read_on (at_chunk key i phase_reading) new true [] c after text report step_code code place
    (outcome key limits.max_chunks i true c) [] opens state (λ rest end. end) on
run_reads key i (c ∷ d ∷ more) text code place sizes (new, after, report, step_code, step, on) =
    let (opens, state) = does_so (rw sizes.0 refl) step in
    read_on (at_chunk key i phase_reading) new false (d ∷ more) c after text report step_code code place
    (outcome key limits.max_chunks i false c) (outcomes key limits.max_chunks (i + 1) (d ∷ more)) opens state
    (λ rest run. run_reads key (i + 1) (d ∷ more) rest code place sizes.1 run) on

-- the results of opening all pieces after a nonce
pub payload_reads : (p : Payload) (rest text : Bytes) (code place : ℕ) → p ≡ before_first p.key phase_reading
    → OpensRun p (pieces rest) text code place
    → IsReadAs (outcomes p.key limits.max_chunks p.number (pieces rest)) text code place
payload_reads p rest text code place is run = grind (arith, run_reads, cut_at_most)

-- ---- calls that seal

pub text_of : (text room : Bytes) → length room ≡ 16 → take (length (text ++ room) - 16) (text ++ room) ≡ text
text_of text room len = take_at text room (length (text ++ room) - 16) (omega (arith, len, length-append text room))

-- all chunks are sealed, or there are too many
abbrev pub AreSealed : (key : Bytes) (i : ℕ) (cs : List Bytes) (out : Bytes) (code : ℕ) → Type 0
AreSealed key i cs out code =
    ((code ≡ 0) × ((out ≡ concat (sealed_chunks_from key i cs)) × (i + length cs ≤ limits.max_chunks)))
    ⊎ ((code ≡ 14) × (limits.max_chunks < i + length cs))

-- one call and the calls after it
seal_on : (key : Bytes) (i : ℕ) (c room : Bytes) (more : List Bytes) (out : Bytes) (code : ℕ) (new : Payload)
    (after : Bytes) (report : Report) (step : ℕ) → length room ≡ 16
    → SealsAs key i (is_end more) (c ++ room) after report step
    → new ≡ after_chunk (at_chunk key i phase_writing) (is_end more) step
    → (i < limits.max_chunks → (rest : Bytes)
    → SealsRun (after_chunk (at_chunk key i phase_writing) (is_end more) 0) more rest code
    → AreSealed key (i + 1) more rest code)
    → ((step ≡ 0) × ((rest : Bytes) × (out ≡ after ++ rest) × SealsRun new more rest code))
    ⊎ ((step ≢ 0) × ((out ≡ []) × (code ≡ step)))
    → AreSealed key i (c ∷ more) out code
seal_on a b c d e f g h i j k l m n o p = grind (arith, text_of)

last_fits : (key : Bytes) (i n : ℕ) (c : Bytes) → n ≡ length c + 16 → Sized i (c ∷ [])
    → may_seal (at_chunk key i phase_writing) n true ≡ true
last_fits a b c d e f = grind (arith, le-leb, lt-ltb)

run_writes : (key : Bytes) (i : ℕ) (cs : List Bytes) (out : Bytes) (code : ℕ) → Sized i cs
    → SealsRun (at_chunk key i phase_writing) cs out code → AreSealed key i cs out code
run_writes key i [] out code (inl e) run = absurd (cc (e.0))
run_writes key i [] out code (inr sizes) run = absurd sizes
run_writes key i (c ∷ []) out code sizes (new, room, size, after, report, step_code, step, on) =
    let n : length (c ++ room) ≡ length c + 16 = omega (arith, size, length-append c room) in
    let (seals, state) = does_so (last_fits key i (length (c ++ room)) c n sizes) step in
    seal_on key i c room [] out code new after report step_code size seals state
    (λ few rest end. inl (end.1, (end.0, omega arith))) on
run_writes key i (c ∷ d ∷ more) out code (inl e) run = absurd (cc (e.0))
run_writes key i (c ∷ d ∷ more) out code (inr sizes) (new, room, size, after, report, step_code, step, on) =
    let n : length (c ++ room) ≡ sealed_chunk_size = omega (arith, size, sizes.0, length-append c room) in
    let (seals, state) = does_so (rw n refl) step in
    seal_on key i c room (d ∷ more) out code new after report step_code size seals state
    (λ few rest run. run_writes key (i + 1) (d ∷ more) rest code (inr sizes.1) run) on

-- ---- the law

pub steps_write : (stanzas file_key nonce plain old new : Bytes) (p : Payload) (report : Report) (out : Bytes)
    (code : ℕ)
    → BeginsFile stanzas file_key nonce old new p report 0 → SealsRun p (chunks plain) out code
    → ((code ≡ 0) × IsNewFile stanzas file_key nonce plain (take report.len new ++ out))
    ⊎ ((code ≡ 14) × (limits.max_chunks < length (chunks plain)))
steps_write stanzas file_key nonce plain old new p report out code (inl up) run =
    absurd (omega (arith, up.0.returned))
steps_write stanzas file_key nonce plain old new p report out code (inr (Err fault, made, refuses)) run =
    absurd (some_code fault (sym refuses.0.returned))
steps_write stanzas file_key nonce plain old new p report out code (inr (Ok header, made, inr (exceeds, kept))) run =
    absurd (omega (arith, exceeds.returned))
steps_write stanzas file_key nonce plain old new p report out code (inr (Ok header, made, inl (fits, state))) run =
    let key : Bytes = payload_key (record { 0 = file_key }) nonce in
    elim (run_writes key 0 (chunks plain) out code (at_most_chunks plain) (rw state at run)) [
      | inr (is, many) ↦ inr (is, omega (arith, many))
      | inl (zero, (is, few)) ↦ inl (
        zero,
        (
          header,
          made,
          rw (fits.reported, fits.buffer, take-append_seam, is) (append_assoc header.items nonce _),
          omega (arith, few),
        ),
      )
    ]
