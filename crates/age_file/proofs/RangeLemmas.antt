-- What opening a file for ranges does, from what its parts do.
use Rattle.age_file.proofs.Common.{◌≡◌, ◌⊎◌, ℕ, [], ◌++◌, ◌+◌, ◌≤◌, length, drop, sym, ◌∙◌, ap, refl, subst, arith, inl, inr, Option, Some, None, Result, Ok, Err, result_map_both, Agrees, BeginsRanges, Bytes, Known, Seen, flow, flow_by, HeaderFault, HeaderParts, of_known, begins_found, Refuses, HeaderVerdict, FileKey, UnlockFault, StreamFault, StaysGiven, OpensRanges, range_outcome, Fault, OutOfMemory, Read, Bounds, Inspects, ReadsFront, IsLate, AtState, GaveFirst, GaveHeader, IsOpenFault, MissesHeader, MissesRanges, ranges_under, Answering, finding, header_fault, stream_fault, unlock_fault, header_key, option_map, ◌^◌, take, ◌<◌, ◌*◌, take_all, take-append-drop, Moved, GaveAt, NonceTruncated, found_again}
use Rattle.age_header.specs.declared.fault.HeaderFault.TheVariants as header
use Rattle.age_recipient.specs.declared.choice.UnlockFault.TheVariants as unlock
use Rattle.age_stream.specs.Ranges as stream
use Rattle.age_stream.specs.Writer.{IsRefusedMemory}
use Rattle.age_stream.proofs.JudgesLastLemmas.{refused_there}
use Rattle.age_stream.proofs.ReadAtLemmas.{has_at}
use Rattle.age_file.proofs.FileLemmas.{key_faults}
use Rattle.age_file.proofs.AtStateLemmas.{first_none}
use Rattle.age_file.proofs.DecryptLemmas.{err_err}

-- a header that was read from the first byte on
pub header_gave : {D : Type 0} (to_come : AtState D → Known) (gave : D → ℕ → ℕ → Type 0) {limits : Bounds}
    {old new : AtState D} {h : HeaderParts} → limits.max_header < 2 ^ 64 → old.at ≡ 0
    → Inspects limits (flow_by to_come (λ s. GaveFirst (gave s.dev) s.at) old new) (Ok h)
    → GaveHeader limits (gave new.dev) new.at h
header_gave to_come gave {limits} {old} {new} {h} small start (text, took, verdict) =
    let (at, read) = took.grew [] (first_none (gave old.dev) start) in
    let found = begins_found text limits.max_header (finding text h) verdict in
    let len : length text ≡ new.at = omega (arith, at, found.fits, small) in
    record {
      text = text;
      len = len;
      read = subst (GaveAt (gave new.dev) 0) (take_all new.at text (omega (arith, len))) read;
      verdict = verdict;
    }

-- a header that was read is the one at the start of the known contents
pub header_known : (b : Bytes) {gave : ℕ → ℕ → Type 0} {found : Option ℕ} {limits : Bounds} {at : ℕ} {h : HeaderParts}
    → Agrees b gave found → (first : GaveHeader limits gave at h)
    → HeaderVerdict b limits.max_header (Ok (finding first.text h))
header_known b {limits = limits} {h = h} agrees first =
    let text : Bytes = first.text in
    let prefix : text ≡ take (length text) b = has_at b text 0 agrees first.read in
    let all : text ++ drop (length text) b ≡ b =
    ap (λ x. x ++ drop (length text) b) prefix ∙ take-append-drop (length text) b in
    subst (λ x. HeaderVerdict x limits.max_header (Ok (finding text h))) all
    (found_again text limits.max_header (finding text h) first.verdict (drop (length text) b))

-- how much was read if reading the header ended in a fault
pub header_most : {D : Type 0} (to_come : AtState D → Known) (gave : D → ℕ → ℕ → Type 0) (limits : Bounds)
    {old new : AtState D} {fault : Fault} (base : ℕ) {given at : ℕ} → old.at ≡ 0
    → ReadsFront limits (flow_by to_come (λ s. GaveFirst (gave s.dev) s.at) old new) fault → at ≡ new.at
    → given ≤ base + at → (fault ≡ Read) ⊎ (given ≤ base + limits.max_header)
header_most to_come gave limits base start (inl e) same le = inl e
header_most to_come gave limits {old} base start (inr (read, gaves, fits)) same le =
    let reached = (gaves.grew [] (first_none (gave old.dev) start)).0 in
    inr (omega (arith, reached, fits, same, le))

refused : (limits : Bounds) (b : Bytes) (g : HeaderFault) → Refuses b limits.max_header g
    → MissesHeader limits (Some b) (header_fault g)
refused a b c d = grind arith

-- a fault of reading the header is one of `MissesHeader`
pub header_missed : (limits : Bounds) (told : Known) {a mid : Seen} (fault : Fault)
    → a.to_come ≡ option_map (drop 0) told → Inspects limits (flow a mid) (Err fault)
    → MissesHeader limits told fault
header_missed limits None fault old i = inr (inr tt)
header_missed limits (Some b) {a} {mid} fault old (g, is, h) =
    subst (MissesHeader limits (Some b)) (sym is) (refused limits b g
    (of_known (λ x. Refuses x limits.max_header g) (flow a mid) b old h))

pub missed_ranges : (limits : Bounds) (answers : Answering) (told : Known) (fault : Fault)
    → MissesHeader limits told fault → MissesRanges limits answers told fault
missed_ranges limits answers told fault (inl e) = inl e
missed_ranges limits answers told fault (inr (inl e)) = inr (inl e)
missed_ranges limits answers None fault (inr (inr h)) = inr (inr tt)
missed_ranges limits answers (Some b) fault (inr (inr h)) = inr (inr (Err h.0, h.1, h.2))

-- a fault of unlocking the header is one of `MissesRanges`
pub locked_ranges : {limits : Bounds} (answers : Answering) (told : Known) {gave : ℕ → ℕ → Type 0} {found : Option ℕ}
    {at : ℕ} {h : HeaderParts} (fault : Fault) → ((b : Bytes) → told ≡ Some b → Agrees b gave found)
    → GaveHeader limits gave at h
    → (◌≡◌ {A = Result FileKey Fault} (Err fault) (Err OutOfMemory)) ⊎ (Err fault ≡ header_key answers h)
    → MissesRanges limits answers told fault
locked_ranges answers told fault agrees first (inl memory) = inr (inl (err_err {A = FileKey} fault OutOfMemory memory))
locked_ranges answers None fault agrees first (inr key) = inr (inr tt)
locked_ranges {limits} answers (Some b) {h = h} fault agrees first (inr key) = inr (inr (
  Ok (finding first.text h),
  header_known b (agrees b refl) first,
  ap (ranges_under limits (drop (length first.text) b)) (sym key),
))

-- the fault of a payload that was not opened is one of `MissesRanges`
pub payload_missed : {limits : Bounds} (answers : Answering) (told : Known) {gave : ℕ → ℕ → Type 0} {found : Option ℕ}
    {at : ℕ} {h : HeaderParts} (k : FileKey) (e : StreamFault) → ((b : Bytes) → told ≡ Some b → Agrees b gave found)
    → GaveHeader limits gave at h
    → (◌≡◌ {A = Result FileKey Fault} (Ok k) (Err OutOfMemory)) ⊎ (Ok k ≡ header_key answers h)
    → OpensRanges k limits.max_chunks at gave found (Err e) → MissesRanges limits answers told (stream_fault e)
payload_missed answers told k e agrees first (inl memory) opens = absurd (cc)
payload_missed answers None k e agrees first (inr key) opens = inr (inr tt)
payload_missed {limits} answers (Some b) {at = at} {h} k e agrees first (inr key) opens =
    elim (refused_there b k limits.max_chunks at e (agrees b refl) opens) [
      | inl is ↦ inl (ap stream_fault is)
      | inr (inl is) ↦ inr (inl (ap stream_fault is))
      | inr (inr is) ↦ inr (inr (
        Ok (finding first.text h),
        header_known b (agrees b refl) first,
        ap (ranges_under limits (drop (length first.text) b)) (sym key)
            ∙ ap (λ n. result_map_both (λ text. text) stream_fault (range_outcome k limits.max_chunks (drop n b)))
            first.len ∙ ap (result_map_both (λ text. text) stream_fault) is,
      ))
    ]

-- ---- the faults are those of `IsOpenFault`

inspect_open : (g : HeaderFault) → IsOpenFault (header_fault g)
inspect_open header.NotAge = tt
inspect_open g = tt

pub header_named : (limits : Bounds) {old mid : Seen} (fault : Fault) → Inspects limits (flow old mid) (Err fault)
    → IsOpenFault fault
header_named limits fault (g, is, h) = subst IsOpenFault (sym is) (inspect_open g)

unlock_open : (e : UnlockFault) → IsOpenFault (unlock_fault e)
unlock_open unlock.NoMatch = tt
unlock_open e = tt

pub locked_named : (answers : Answering) (h : HeaderParts) (fault : Fault)
    → (◌≡◌ {A = Result FileKey Fault} (Err fault) (Err OutOfMemory)) ⊎ (Err fault ≡ header_key answers h)
    → IsOpenFault fault
locked_named a b c d = grind (arith, err_err, key_faults, unlock_open)

pub payload_named : {D : Type 0} {old new : D} (e : StreamFault)
    → IsRefusedMemory old new e ⊎ stream.IsOpenFault e → IsOpenFault (stream_fault e)
payload_named a b = grind arith

-- how much was read, unless the payload's fault is late (`IsLate`) or `NonceTruncated`
pub payload_front : {D : Type 0} (given : D → ℕ) {old new : D} {most : ℕ} (e : StreamFault) → given old ≤ most
    → IsRefusedMemory old new e ⊎ stream.IsOpenFault e
    → IsLate (stream_fault e) ⊎ ((stream_fault e ≡ NonceTruncated) ⊎ (given new ≤ most))
payload_front a b c d = grind arith

-- ---- the header of a file

-- a header that was read still counts as read
pub header_stays : {limits : Bounds} {old new : ℕ → ℕ → Type 0} {at : ℕ} {h : HeaderParts} → StaysGiven old new
    → GaveHeader limits old at h → GaveHeader limits new at h
header_stays stays first = grind arith

-- a header that was found fits into its limit
pub header_fits : {limits : Bounds} {gave : ℕ → ℕ → Type 0} {at : ℕ} {h : HeaderParts} → GaveHeader limits gave at h
    → at ≤ limits.max_header
header_fits {limits} {h = h} first = grind (arith, begins_found first.text limits.max_header (finding first.text h) first.verdict)

-- ---- a file that was opened

-- how much was read
pub file_most : {k : FileKey} {max at given1 given2 : ℕ} (given : ℕ) {gave : ℕ → ℕ → Type 0} {size : Option ℕ}
    {source : Moved} (chunks : stream.RangeState) → given1 ≤ given + at → BeginsRanges k max at gave size chunks
    → stream.Probes source size at given1 given2
    → given2 ≤ given + (chunks.layout.first + stream.last_len (chunks.layout.plain + 16 * chunks.layout.count))
file_most {at = at} given chunks le begins probes = grind arith
