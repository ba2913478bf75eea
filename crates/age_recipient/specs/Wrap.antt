-- The result of a call of `wrap`, by the recipient's meaning.
use Rattle.std.specs.Prelude.{◌≡◌, ℕ, List, ⊤}
use Rattle.std.specs.Global.{Global}
use Rattle.std.specs.Prelude.{Vec}
use Rattle.std.specs.declared.result.Result.{Result}
use Rattle.std.specs.declared.result.Result.TheVariants.{Ok, Err}
use Rattle.age_header.specs.Header.{StanzaParts}
use Rattle.age_recipient.specs.declared.recipient.WrapFault.{WrapFault}
use Rattle.age_recipient.specs.declared.recipient.WrapFault.TheVariants.{Refused, Memory}

-- the result is the meaning, or `Memory`
abbrev pub WrapsAs : (meaning : Result (List StanzaParts) ℕ)
    (result : Result (Vec StanzaParts Global) WrapFault) → Type 0
WrapsAs meaning (Ok stanzas) = meaning ≡ Ok stanzas.items
WrapsAs meaning (Err (Refused code)) = meaning ≡ Err code
WrapsAs meaning (Err Memory) = ⊤
