-- The state of a reader of headers between two calls, and the result of its call.
use Rattle.std.specs.Prelude.{ℕ, ⊤, Bool, true, false}
use Rattle.std.specs.declared.option.Option.{Option}
use Rattle.std.specs.declared.option.Option.TheVariants.{None, Some}
use Rattle.std.specs.declared.result.Result.{Result}
use Rattle.std.specs.declared.result.Result.TheVariants.{Ok, Err}
use Rattle.age_header.specs.Device.{Flow, Gave, GaveAtMost, OfGiven}
use Rattle.age_kdf.specs.Bytes.{Bytes}
use Rattle.age_header.specs.declared.fault.HeaderFault.{HeaderFault}
use Rattle.age_header.specs.declared.fault.HeaderFault.TheVariants.{Read, Memory}
use Rattle.age_header.specs.Header.{HeaderParts}
use Rattle.age_header.specs.Verdict.{HeaderVerdict, IsFault}

-- b is refused with its fault; or the fault is `Memory` or `Read`, which says nothing about b
abbrev pub Refuses : (b : Bytes) (max : ℕ) (fault : HeaderFault) → Type 0
Refuses b max Read = ⊤
Refuses b max Memory = ⊤
Refuses b max fault = IsFault b max fault

-- at most n bytes were read, unless a read failed
abbrev pub ReadAtMost : (n : ℕ) (source : Flow) (fault : HeaderFault) → Type 0
ReadAtMost n source Read = ⊤
ReadAtMost n source fault = GaveAtMost n source

-- The result of a reader under a limit of max bytes. On Ok the source returned exactly the text of
-- this header. On an Err `Refuses` holds of the bytes returned and any that may follow (`OfGiven`).
abbrev pub ReadsHeader : (source : Flow) (max : ℕ) (r : Result HeaderParts HeaderFault) → Type 0
ReadsHeader source max (Ok h) =
    (text : Bytes) × Gave source text
    × HeaderVerdict text max (Ok (record { stanzas = h.stanzas; mac = h.mac; text = text }))
ReadsHeader source max (Err fault) = OfGiven source (λ b. Refuses b max fault)

-- a failed read, which the source counts
abbrev pub is_read : HeaderFault → Bool
is_read Read = true
is_read _ = false

-- a reader between calls: its limit, and the fault that it keeps, if there is one
pub record ReaderState : Type 0 where
  pub max : ℕ
  pub fault : Option HeaderFault

-- the fault that a reader keeps after this result
abbrev pub fault_of : Result HeaderParts HeaderFault → Option HeaderFault
fault_of (Ok h) = None
fault_of (Err fault) = Some fault
