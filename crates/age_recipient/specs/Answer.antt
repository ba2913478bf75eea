-- The decision of a list of answers, and the type of a stanza.
use Rattle.std.specs.Prelude.{Bool, true, false, List, [], ◌∷◌, if◌then◌else◌}
use Rattle.std.specs.Option.{option_map_or}
use Rattle.std.specs.Str.{bytes_eq}
use Rattle.std.specs.declared.option.Option.{Option}
use Rattle.std.specs.declared.option.Option.TheVariants.{None, Some}
use Rattle.age_kdf.specs.Bytes.{Bytes}
use Rattle.age_header.specs.Header.{StanzaParts}
use Rattle.age_recipient.specs.declared.unwrapped.Unwrapped.{Unwrapped}
use Rattle.age_recipient.specs.declared.unwrapped.Unwrapped.TheVariants.{NotMine, Failed, Key, Malformed}

-- whether an answer is a key or a malformed stanza
abbrev pub decides : Unwrapped → Bool
decides NotMine = false
decides Failed = false
decides (Key file_key) = true
decides (Malformed fault) = true

-- The first answer that is a key or a malformed stanza. If there is none, `Failed` if an answer is
-- `Failed`, else `so_far`.
abbrev pub decision_from : (so_far : Unwrapped) (answers : List Unwrapped) → Unwrapped
decision_from so_far [] = so_far
decision_from so_far (Key file_key ∷ more) = Key file_key
decision_from so_far (Malformed fault ∷ more) = Malformed fault
decision_from so_far (Failed ∷ more) = decision_from Failed more
decision_from so_far (NotMine ∷ more) = decision_from so_far more

-- the first answer that decides; else `Failed` if an answer is `Failed`, else `NotMine`
abbrev pub decision : List Unwrapped → Unwrapped
decision answers = decision_from NotMine answers

-- the arguments after the type, if the stanza is of this type
abbrev pub after_type : (kind : Bytes) (args : List Bytes) → Option (List Bytes)
after_type kind [] = None
after_type kind (first ∷ rest) = if bytes_eq first kind then Some rest else None

-- whether a stanza is of this type
abbrev pub is_of : (kind : Bytes) (stanza : StanzaParts) → Bool
is_of kind stanza = option_map_or (λ _. true) (after_type kind stanza.args) false
