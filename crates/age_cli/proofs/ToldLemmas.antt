-- What was printed on standard error, from what each call printed.
use Rattle.std.specs.Prelude.{IfSome, codes, false}
use Rattle.age_cli.proofs.Common.{◌≡◌, ◌⊎◌, ℕ, List, arith, Result, Err, ⊤, Bytes, Known, AskForText, Reads, AnswersRefusal}
use Rattle.age_args.specs.declared.fault.WordsFault.{WordsFault}
use Rattle.age_args.specs.declared.fault.WordsFault.TheVariants.{Memory}
use Rattle.age_args.proofs.RefusalLemmas.{shown}
use Rattle.age_header.specs.Device.{Counts, Writes}
use Rattle.age_cli.specs.Told.{Prints, Says, Stream, error_line}

-- the line was printed, or a prefix of it, if one `write_all` was called for it
pub prints : {E : Type 0} (err : Stream) (r : Result ⊤ E) (line : Bytes) → Writes err.bytes r line
    → Counts err.before err.after r → Prints err line
prints err r line h count = grind arith

-- the line of refused memory is one of those that `Says` allows
refused_is : (known : Known)
    → IfSome known (λ said. (error_line (codes "out of memory") ≡ said)
    ⊎ (error_line (codes "out of memory") ≡ error_line (codes "out of memory")))
refused_is known = grind arith

pub says_refusal : {E : Type 0} (known : Known) (err : Stream) (r : Result ⊤ E)
    → Writes err.bytes r (error_line (codes "out of memory")) → Counts err.before err.after r → Says known err false
says_refusal known err r h count = grind (arith, prints, refused_is)

-- after a refusal with status 1 the words ask for a text, or `told` holds
pub told_refusal : (words : List Bytes) (unwritten told : Type 0) (fault : WordsFault) (status : ℕ)
    → Reads words (Err fault) → AnswersRefusal fault status unwritten → (fault ≡ Memory → told) → status ≡ 1
    → AskForText words ⊎ told
told_refusal words unwritten told fault status h a t one = grind (arith, shown)
