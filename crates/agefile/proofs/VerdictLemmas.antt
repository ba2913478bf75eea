-- The results of opening a file, for its payload or for ranges, agree with its verdict.
use Rattle.agefile.proofs.Common.{cases_lt, le-ltb, lt-ltb, ◌≡◌, ◌≢◌, ℕ, ◌+◌, [], length, take, drop, cond, sym, Result, Ok, Err, arith, inl, inr, drop-drop, Bytes, FileKey, Reading, reading_from, stop, Fault, Answering, IsVerdict, parts_of, reading_under, header_key, with_file_fault, Payload, Report, Start, code_of, limits, front_size, IsStart, Opens, start_under, before_first, phase_reading, report_of, Ranges, OpensRanges}
use Rattle.agefile.proofs.FrontLemmas.{whole_start}
use Rattle.agefile.proofs.RunLemmas.{some_code}
use Rattle.agefile.proofs.UnlockLemmas.{judged_is, opened_start, refusal, start_within}

-- ---- the verdict, by the start

-- v is the verdict on b, given the start of b's payload or the fault before it
abbrev pub IsVerdictFrom : Bytes → Reading Fault → Result Start Fault → Type 0
IsVerdictFrom b v (Err fault) = v ≡ stop fault
IsVerdictFrom b v (Ok start) =
    v ≡ with_file_fault (reading_from start.key limits.max_chunks 0 (drop start.first b))

under_from : (b : Bytes) (n : ℕ) (v : Reading Fault) (key : Result FileKey Fault)
    → v ≡ reading_under limits (drop n b) key → IsVerdictFrom b v (start_under n (drop n b) key)
under_from b n v (Err fault) is = is
under_from b n v (Ok k) is = grind (arith, lt-ltb, le-ltb, drop-drop 16 n b, cond, cases_lt (length (drop n b)) 16)

pub verdict_from : (answers : Answering) (b : Bytes) (start : Result Start Fault) (v : Reading Fault)
    → IsStart answers b start → IsVerdict limits answers b v → IsVerdictFrom b v start
verdict_from answers b start v (Err e, verdict, is) h = rw is (judged_is answers b v (Err e) verdict h)
verdict_from answers b start v (Ok found, verdict, is) h =
    rw is (under_from b (length found.text) v (header_key answers (parts_of found))
    (judged_is answers b v (Ok found) verdict h))

-- ---- the laws

pub opening_refused : (answers : Answering) (b : Bytes) (p : Payload) (report : Report) (code : ℕ) (v : Reading Fault)
    → Opens answers (take front_size b) p report code → IsVerdict limits answers b v → code ≢ 0 → code ≢ 17
    → (v.plaintext ≡ []) × (code_of v.fault ≡ code) × (report ≡ report_of 0 v.fault)
opening_refused answers b p report code v (Ok start, is, opens) h some other = absurd (some opens.0)
opening_refused answers b p report code v (Err fault, inl memory, opens) h some other = grind arith
opening_refused answers b p report code v (Err fault, inr is, opens) h some other =
    refusal fault v opens (verdict_from answers b (Err fault) v (whole_start answers b (Err fault) is) h)

-- the verdict, if the payload was opened
pub by_payload : (answers : Answering) (b : Bytes) (p : Payload) (report : Report) (v : Reading Fault)
    → Opens answers (take front_size b) p report 0 → IsVerdict limits answers b v
    → (p ≡ before_first p.key phase_reading)
    × (v ≡ with_file_fault (reading_from p.key limits.max_chunks p.number (drop report.len b)))
by_payload answers b p report v opens h =
    let (start, is, at) = opened_start answers (take front_size b) p report opens in
    let from = verdict_from answers b (Ok start) v (whole_start answers b (Ok start) is) h in
    grind (arith, from)

-- ---- ranges

-- what was opened is the file's own payload
pub opened_range : (answers : Answering) (b : Bytes) (r : Ranges) (report : Report)
    → OpensRanges answers (take front_size b) (length b) r report 0
    → IsStart answers b (Ok (record { first = r.first; key = r.key })) × (length b ≡ r.first + r.sealed_len)
opened_range answers b r report (Err fault, is, opens) = absurd (some_code fault (sym opens.returned))
opened_range answers b r report (Ok start, inl memory, opens) = absurd (cc)
opened_range answers b r report (Ok start, inr is, inl (lt, closed)) = absurd (cc (closed.returned))
opened_range answers b r report (Ok start, inr is, inr (le, returned, new, place)) =
    rw new (whole_start answers b (Ok start) is, omega (arith, le))

-- a fault of the opening, other than out of memory, is the verdict's
pub refused_range : (answers : Answering) (b : Bytes) (r : Ranges) (report : Report) (code : ℕ) (v : Reading Fault)
    → OpensRanges answers (take front_size b) (length b) r report code → IsVerdict limits answers b v → code ≢ 0
    → code ≢ 17 → (v.plaintext ≡ []) × (code_of v.fault ≡ code) × (report ≡ report_of 0 v.fault)
refused_range answers b r report code v (Err fault, inl memory, opens) h some other = grind arith
refused_range answers b r report code v (Err fault, inr is, opens) h some other =
    refusal fault v opens (verdict_from answers b (Err fault) v (whole_start answers b (Err fault) is) h)
refused_range answers b r report code v (Ok start, inl memory, opens) h some other = absurd (cc)
refused_range answers b r report code v (Ok start, inr is, inl (lt, closed)) h some other =
    absurd (omega (arith, lt, start_within answers b start (inr (whole_start answers b (Ok start) is))))
refused_range answers b r report code v (Ok start, inr is, inr (le, returned, new, place)) h some other =
    absurd (some returned)
