-- The report of a call, and the results that calls of several kinds have.
use Rattle.std.specs.Prelude.{◌≡◌}
use Rattle.agefile.specs.Words.{ℕ, Option, Some, None, Bool, Fault, Report, Bytes}
use Rattle.agefile.specs.Codes.{fault_code, fault_detail, fault_place, out_of_order}
use Rattle.std.specs.Bool.{OnFalse, OnTrue}

-- a report of `len` bytes, and the place and the detail of a fault, both 0 if there is none
abbrev pub report_of : (len : ℕ) (fault : Option Fault) → Report
report_of len None = record { len = len; place = 0; detail = 0 }
report_of len (Some fault) =
    record { len = len; place = fault_place fault; detail = fault_detail fault }

-- the call returns this code, reports this fault or none, and leaves its output unchanged
pub record Returns {S : Type 0} (expected : ℕ) (fault : Option Fault) (old new : S)
    (report : Report) (code : ℕ) : Type 0 where
  pub returned : code ≡ expected
  pub reported : report ≡ report_of 0 fault
  pub same : new ≡ old

-- the call returns and reports this fault, and leaves its output unchanged
abbrev pub Refuses : {S : Type 0} (fault : Fault) (old new : S) (report : Report) (code : ℕ)
    → Type 0
Refuses fault old new report code = Returns (fault_code fault) (Some fault) old new report code

-- one call: `does` holds if it fits the state; otherwise it returns 23 and changes only the report
pub record Steps {S : Type 0} (fits : Bool) (does : Type 0) (old new : S) (chunk after : Bytes)
    (report : Report) (code : ℕ) : Type 0 where
  pub out_of_order : OnFalse fits
      (Returns out_of_order None old new report code × (after ≡ chunk))
  pub done : OnTrue fits does
