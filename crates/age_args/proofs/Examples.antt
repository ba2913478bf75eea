-- Examples: command lines, and the values or the faults that `clap` finds in them.
use Rattle.age_args.proofs.Common.{◌≡◌, ℕ, refl, codes, List, [], ◌∷◌, Option, Some, option_map, Row, Text, fault_of, subcommand_of, ValueValidation, MissingRequiredArgument, agep, number_or, rest_of}
use Rattle.clap.proofs.OnLiterals.{clap_on_literals}
use Rattle.clap.specs.Words.{first_of}

abbrev words : List Text
words = codes "agep" ∷ codes "encrypt" ∷ codes "-ka" ∷ codes "--key" ∷ codes "b" ∷ codes "-w=3" ∷ codes "in" ∷ []

abbrev Read : Type 0
Read = Text × Option Text × List Text × ℕ × Option Text

abbrev read : Option (Text × List Row) → Option Read
read = option_map {U = Read} (λ p. (
  p.0,
  first_of (codes "key") p.1,
  rest_of (codes "key") p.1,
  number_or 0 (codes "work") p.1,
  first_of (codes "input") p.1,
))

given : ◌≡◌ {A = Option Read} (read (subcommand_of agep words))
    (Some (codes "encrypt", Some (codes "a"), codes "b" ∷ [], 3, Some (codes "in")))
unfolding clap_on_literals
given = refl

nothing_wrong : fault_of agep words ≡ []
unfolding clap_on_literals
nothing_wrong = refl

too_much : fault_of agep (codes "agep" ∷ codes "encrypt" ∷ codes "-w" ∷ codes "31" ∷ []) ≡ ValueValidation ∷ []
unfolding clap_on_literals
too_much = refl

no_file : fault_of agep (codes "agep" ∷ codes "range" ∷ codes "0" ∷ codes "9" ∷ []) ≡ MissingRequiredArgument ∷ []
unfolding clap_on_literals
no_file = refl
