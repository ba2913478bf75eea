-- What a reader of headers returns, from the bytes that its source gave.
use Rattle.age_header.proofs.Common.{arith, ℕ, Err, Bytes, GaveSome, Seen, flow, HeaderFault, ReadsHeader, Read, Memory, IsOutside, Refuses}
use Rattle.age_header.proofs.DeviceLemmas.{of_any}

refused : (b : Bytes) (max : ℕ) (e : HeaderFault) → IsOutside e → Refuses b max e
refused a b c d = grind arith

-- a failed read or refused memory, after any bytes, is a result that a reader may return
pub outside : {a new : Seen} (max : ℕ) (e : HeaderFault) → IsOutside e → GaveSome (flow a new)
    → ReadsHeader (flow a new) max (Err e)
outside max e h some = of_any some (λ b. refused b max e h)
