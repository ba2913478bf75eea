-- The identities of the passphrases before this one.
use Rattle.age_commands.proofs.Common.{◌≡◌, take, guesses_of}
use Rattle.age_commands.proofs.identity.pass_identities.Given as goal

abbrev pub invariant-loop-other : goal.invariant-loop-other
invariant-loop-other l = l.identities.items ≡ guesses_of l.first (take l.other-index l.others) l.job.max_work
