-- The job of words that name neither IN nor OUT.
use Rattle.age_args.proofs.Common.{arith, ◌≡◌, ◌∙◌, sym, List, None, Text, IsPiped, Makes, header_limit, Command, Job}
use Rattle.age_args.proofs.TakenLemmas.{pair_same}

pub record Piped (command : Command) (words : List Text) (job : Job) : Type 0 where
  pub is : job.command ≡ command
  pub input : job.input ≡ None
  pub output : job.output ≡ None
  pub max_header : job.max_header ≡ header_limit words

pub piped : (command : Command) (words : List Text) (job : Job) → IsPiped command words → Makes words job
    → Piped command words job
piped command words job (rows, is, input, output) (faultless, (others, named, of)) = grind (arith, pair_same (sym named ∙ is))
