-- What the words of a command line name.
use Rattle.age_args.proofs.Common.{◌≡◌, ◌∙◌, ◌⊎◌, inl, inr, ap, refl, sym, subst, true, codes, arith, length, map, get_or, Bor, List, [], ◌∷◌, Some, Result, Ok, Err, option_map, bytes_eq, bytes_eq-Decides, App, HasKind, HasMatchesOf, Row, Text, app_of, fault_of, subcommand_name_of, subcommand_of, subcommand_rows_of, Error, DisplayHelp, InvalidSubcommand, ArgMatches, agep, AsksForHelp, Becomes, JobOf, Reads, name_of, Job, Memory, Refused}
use Rattle.std.specs.Result.{IsErrAnd}
use Rattle.clap.specs.Words.{is_simple, is_simple_and_free}
use Rattle.clap.proofs.OnLiterals.{clap_on_literals}
use Rattle.clap.specs.declared.builder.command.Command.{Command}
use Rattle.age_args.specs.declared.fault.WordsFault.{WordsFault}
use Rattle.age_args.proofs.SubcommandLemmas.{subcommand_is}
use Rattle.age_args.proofs.TakenLemmas.{Taken, agep_is_free, agep_is_simple, taken}

-- the words have no fault, and name this subcommand with these values, of which `Taken` holds
pub record Named (words : List Text) (name : Text) (rows : List Row) : Type 0 where
  pub is : subcommand_of agep words ≡ Some (name, rows)
  pub faultless : fault_of agep words ≡ []
  pub taken : Taken name rows

pub named : (command : Command) {words : List Text} (m : ArgMatches) {name : Text} {rows : List Row}
    → app_of command ≡ agep
    → HasMatchesOf (app_of command) words m
    → (is_simple_and_free (app_of command) ≡ true → fault_of (app_of command) words ≡ [])
    → Some name ≡ subcommand_name_of m → Some rows ≡ option_map (λ p. p.1) (subcommand_rows_of m)
    → Named words name rows
named command {words} m {name} {rows} app matches kinds is_name are_rows =
    let simple = ap is_simple app ∙ agep_is_simple in
    let is = subst (λ (a : App). subcommand_of a words ≡ Some (name, rows)) app
    (sym (matches simple).1 ∙ subcommand_is m is_name are_rows) in
    let faultless = subst (λ (a : App). fault_of a words ≡ []) app (kinds (ap is_simple_and_free app ∙ agep_is_free)) in
    record { is = is; faultless = faultless; taken = taken words faultless is }

help_fault : fault_of agep (codes "agep" ∷ codes "--help" ∷ []) ≡ DisplayHelp ∷ []
unfolding clap_on_literals
help_fault = refl

long_fault : (program : Text)
    → fault_of agep (program ∷ codes "help" ∷ codes "--help" ∷ []) ≡ DisplayHelp ∷ InvalidSubcommand ∷ []
unfolding clap_on_literals
long_fault program = refl

short_fault : (program : Text)
    → fault_of agep (program ∷ codes "help" ∷ codes "-h" ∷ []) ≡ DisplayHelp ∷ InvalidSubcommand ∷ []
unfolding clap_on_literals
short_fault program = refl

help_is : {words : List Text} → AsksForHelp words → fault_of agep words ≡ DisplayHelp ∷ InvalidSubcommand ∷ []
help_is (program, option, is, inl long) = rw (is, long) (long_fault program)
help_is (program, option, is, inr short) = rw (is, short) (short_fault program)

pub help_read : {words : List Text} (result : Result Job WordsFault) → AsksForHelp words
    → Reads (codes "agep" ∷ codes "--help" ∷ []) result → Reads words result
help_read a b c = grind (arith, help_fault, help_is)

pub made : {words : List Text} {name : Text} {rows : List Row} {job : Job} → Named words name rows
    → name ≡ name_of job.command → JobOf rows job
    → Reads words (Ok job)
made {rows = rows} n is of = (n.faultless, (rows, n.is ∙ ap (λ (name : Text). Some (name, rows)) is, of))

pub refusal : (words : List Text) (command : Command) (error : Error) (result : Result Job WordsFault)
    → app_of command ≡ agep
    → IsErrAnd result (Becomes error)
    → (is_simple_and_free (app_of command) ≡ true → HasKind (fault_of (app_of command) words) error)
    → Reads words result
refusal words command error (Ok job) app becomes kinds = absurd becomes
refusal words command error (Err Memory) app becomes kinds = tt
refusal words command error (Err (Refused refused)) app becomes kinds =
    let has = kinds (ap is_simple_and_free app ∙ agep_is_free) in
    grind (arith, subst (λ (a : App). HasKind (fault_of a words) error) app has)

pub asks : (words : List (Bor Text)) (d e : Bor Text) {option : Text} → length words ≡ 3
    → bytes_eq (get_or words 1 d).now (codes "help") ≡ true
    → bytes_eq (get_or words 2 e).now option ≡ true → (option ≡ codes "--help") ⊎ (option ≡ codes "-h")
    → AsksForHelp (map (λ w. w.now) words)
asks (p ∷ h ∷ o ∷ []) d e {option} n help same is = grind (arith, bytes_eq-Decides)
asks words d e n help same is = absurd (omega arith)
