-- The choice of a file key by a list of identities.
use Rattle.std.specs.Prelude.{Bool, false, ◌||◌, ◌&&◌, not, List, ◌∷◌}
use Rattle.std.specs.declared.result.Result.{Result}
use Rattle.std.specs.declared.result.Result.TheVariants.{Ok, Err}
use Rattle.age_header.specs.declared.file_key.FileKey.{FileKey}
use Rattle.age_recipient.specs.declared.choice.UnlockFault.{UnlockFault}
use Rattle.age_recipient.specs.declared.choice.UnlockFault.TheVariants as unlock
use Rattle.age_recipient.specs.declared.unwrapped.Unwrapped.{Unwrapped}
use Rattle.age_recipient.specs.declared.unwrapped.Unwrapped.TheVariants.{NotMine, Failed, Key, Malformed}
use Rattle.age_recipient.specs.Answer.{decides, decision}

-- the choice, by the decision of the answers
abbrev pub verdict_of : Unwrapped → Result FileKey UnlockFault
verdict_of NotMine = Err unlock.NoMatch
verdict_of Failed = Err unlock.WrongKey
verdict_of (Key file_key) = Ok file_key
verdict_of (Malformed fault) = Err (unlock.Malformed fault)

-- the choice of the identities' answers, in order: the first key or malformed stanza; else
-- `WrongKey` if one failed; else `NoMatch`
abbrev pub choice : List Unwrapped → Result FileKey UnlockFault
choice answers = verdict_of (decision answers)

-- whether an identity may run out of memory and no identity before it decides
abbrev pub lacks_memory : (answers : List Unwrapped) (may_run_out : List Bool) → Bool
lacks_memory (answer ∷ answers) (may ∷ others) =
    may || (not (decides answer) && lacks_memory answers others)
lacks_memory _ _ = false
