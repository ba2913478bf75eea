-- The result of salvaging from a source that may skip bytes that cannot be read.
use Rattle.age_commands.proofs.Common.{arith, append-nil, ◌≡◌, ◌⊎◌, ◌∙◌, ◌++◌, [], ap, subst, cond, false, true, Bool, ℕ, Option, None, Result, Ok, Err, OnOk, IfOk, inl, inr, sym, refl, ◌&&◌, ⊤, IfSome, is_some, Consumes-whole, Bytes, CountsIf, Known, Moved, OfGiven, Seen, flow, KnownLosses, is_whole_to, losses_of, Fault, BadChunk, SalvagedFile, Bounds, IsQuiet, is_write, SalvagesFile, is_whole_file, Answering, SalvagesAll, if_whole, of_any, gave_none, of_all, reports_none, Consumes, Consumes-kept, Consumes-nil, Consumes-trans, IsAtEnd, Keeps}
use Rattle.std.proofs.lemmas.Bool.Decides.{nat_tests}
use Rattle.age_commands.specs.declared.skipping.Reached.{Reached}
use Rattle.age_commands.specs.declared.skipping.Reached.TheVariants.{Place, End, Failure}
use Rattle.age_commands.specs.Skipping.{HasRead, IsFirst, OfRead, come_by, is_end}

-- what a read gave comes after what was returned before
pub read_more : (reached next : Reached) (failed : Type 0) (start before after : Known) (past bytes : Bytes)
    → Consumes before after bytes → (next ≡ End → IsAtEnd after) → (reached ≡ Failure → next ≡ Failure)
    → HasRead reached failed start before past → HasRead next failed start after (past ++ bytes)
read_more reached next failed start before after past bytes more end stays read =
    grind (arith, Consumes-trans)

-- a failed read returns no bytes, and the reader loses none, unless it counted a failure
pub read_no_more : (reached : Reached) {next : Reached} {failed : Type 0} (skips : Bool) (start : Known) {R : Type 0}
    (remaining : R → Known) (before : R) {mid after : R} (past : Bytes) → next ≡ Failure
    → Keeps (remaining before) (remaining mid) → (after ≡ mid) ⊎ ((skips ≡ true) × failed)
    → HasRead reached failed start (remaining before) past → HasRead next failed start (remaining after) (past ++ [])
read_no_more reached {next} {failed} skips start remaining before {mid} {after} past is keeps moved read =
    grind (arith, Consumes-kept, append-nil)

-- a failed read takes none of the known bytes
pub come_no_more : {failed : Type 0} (skips : Bool) {R : Type 0} (remaining : R → Known) (before : R) {mid after : R}
    → Keeps (remaining before) (remaining mid) → (after ≡ mid) ⊎ ((skips ≡ true) × failed)
    → Consumes (come_by skips (remaining before)) (come_by skips (remaining after)) []
come_no_more skips remaining before {mid} keeps moved = grind (arith, Consumes-kept, Consumes-nil)

-- what holds of the bytes returned holds of the reader's, if none may be skipped or all were read
pub read_of : {A : Type 0} (input : Option A) (reached : Reached) {failed : Type 0} (start now : Known) {old new : Seen}
    {P : Bytes → Type 0} → old.to_come ≡ come_by (is_some input) start → old.gave []
    → ((past : Bytes) → new.gave past → HasRead reached failed start now past) → OfGiven (flow old new) P
    → OfRead input (is_end reached) failed start P
read_of {A} input reached {failed} start now {old} {new} {P} same none gave o =
    (o.given, holds, first reached read, all)
  where
    read : HasRead reached failed start now o.given
    read = gave o.given (o.gave.grew [] none)

    holds : P o.given
    holds = rw append-nil at (o.holds [] (λ end. refl))

    first : (r : Reached) → HasRead r failed start now o.given → IsFirst start o.given ⊎ failed
    first Place h = inl (now, h)
    first End h = inl (now, h.0)
    first Failure h = grind arith

    ended : (r : Reached) → is_end r ≡ true → HasRead r failed start now o.given → IfSome start P
    ended End is h = Consumes-whole start now o.given P h.0 h.1 holds
    ended r is h = absurd (cc)

    all : (input ≡ None) ⊎ (is_end reached ≡ true) → IfSome start P
    all (inl is) = subst (λ k. IfSome k P) (same ∙ ap (λ i. come_by (is_some i) start) is) (of_all o)
    all (inr is) = ended reached is read

pub salvages_from : {A : Type 0} {limits : Bounds} {answers : Answering} (input : Option A) (reached : Reached)
    (now : Known) (done : Result SalvagedFile Fault) {failed : Type 0} {start from : Known} {old new : Seen}
    {sink : Moved} {before mid after : KnownLosses} {is_read : Bool} {result : Result ⊤ Fault} → start ≡ from
    → old.to_come ≡ come_by (is_some input) from → old.gave []
    → ((past : Bytes) → new.gave past → HasRead reached failed start now past)
    → SalvagesFile limits answers (flow old new) sink (losses_of before mid) done → after ≡ mid
    → is_read ≡ is_end reached → result ≡ if_whole is_read done
    → SalvagesAll limits answers input failed from sink (losses_of before after) result
salvages_from {A} {limits} {answers} input reached now done {failed} {start} {from} {old} {new} {sink} {before} {mid}
    {after} {is_read} {result} same told none gave h kept end is =
    subst (λ k. SalvagesAll limits answers input failed k sink (losses_of before after) result) same
    (subst (λ l. SalvagesAll limits answers input failed start sink (losses_of before l) result) (sym kept) (
      done,
      is_end reached,
      is ∙ ap (λ b. if_whole b done) end,
      read_of input reached start now (told ∙ ap (come_by (is_some input)) (sym same)) none gave h,
    ))

abbrev succeeded : Result ⊤ Fault
succeeded = Ok tt

-- the command's result says the same of devices and reports as the library's
pub quiet_whole : {W : Type 0} (old new : W) (is_read : Bool) (done : Result SalvagedFile Fault)
    {result : Result ⊤ Fault} → result ≡ if_whole is_read done → IsQuiet old new done → IsQuiet old new result
quiet_whole old new is_read done is h = grind arith

pub writes_whole : (old new : ℕ) (is_read : Bool) (done : Result SalvagedFile Fault) {result : Result ⊤ Fault}
    → result ≡ if_whole is_read done → CountsIf is_write old new done → CountsIf is_write old new result
writes_whole old new is_read done is h = grind arith

pub silent_whole : {L : Type 0} (old mid new : L) (is_read : Bool) (done : Result SalvagedFile Fault)
    {result : Result ⊤ Fault} → result ≡ if_whole is_read done
    → IfOk done (λ s. s.payload.lost ≡ 0 → mid ≡ old) → OnOk result (new ≡ mid) → OnOk result (new ≡ old)
silent_whole old mid new is_read done is h kept = grind (arith, nat_tests)

pub ruleset salvage = (of_any, gave_none, reports_none)
