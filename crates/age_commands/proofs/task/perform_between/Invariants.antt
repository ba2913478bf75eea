use Rattle.age_commands.proofs.task.perform_between.Given as goal

abbrev pub ghosts-salvage_all : goal.ghosts-salvage_all
ghosts-salvage_all g a =
    record { start = g.R.Read.remaining a.input.now; failed = g.R.Input.failed a.input.now }
