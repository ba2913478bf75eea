-- What an error of `clap` says of the words.
use Rattle.age_args.proofs.Common.{arith, ◌≡◌, Bool, true, List, [], ◌∷◌, Err, list_any, IsAmong, Text, fault_of, kind_of, Error, ErrorKind, agep, AreWrong, AskForText, IsShown, Reads, is_display, Refused}
use Rattle.clap.specs.Words.{Kinds}

among : (p : ErrorKind → Bool) (k : ErrorKind) (kinds : Kinds) → IsAmong k kinds → p k ≡ true → list_any p kinds ≡ true
among p k [] h e = absurd h
among p k (x ∷ xs) h e = grind (arith, among p k xs)

pub shown : (words : List Text) (error : Error) → Reads words (Err (Refused error)) → IsShown error → AskForText words
shown words error h e = among is_display (kind_of error) (fault_of agep words) h e

pub wrong : (words : List Text) (error : Error) → Reads words (Err (Refused error)) → (IsShown error → ⊥)
    → AreWrong words
wrong words error h e = grind (arith, among)
