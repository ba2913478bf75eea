-- Names that the proofs of this crate cite, re-exported from one place.
pub use Rattle.age_cli.specs.Program.{AnswersRefusal, FailsBeside, IsDevice, IsTaskOf, OfWork, Runs, RunsOn, Works, word_limits}
pub use Rattle.age_commands.specs.Output.{Ends}
pub use Rattle.age_commands.specs.Task.{OfKnown, Performs, PerformsQuietly, SalvagesAll, without_counts}
pub use Rattle.age_commands.specs.declared.task.Task.{Task}
pub use Rattle.age_file.specs.declared.fault.Fault.{Fault}
pub use Rattle.age_header.specs.Device.{Bytes, Known, Moved, Stays, move_by, move_of}
pub use Rattle.age_job.specs.declared.job.Job.{Job}
pub use Rattle.age_stream.specs.Salvage.{LossesMoved, losses_by}
pub use Rattle.age_args.specs.JobOf.{AreWrong, AskForText, IsPiped, Makes, Reads}
pub use Rattle.std.proofs.Common.{Err, List, None, Ok, Option, Result, Some, ap, arith, cond, false, inl, inr, length, refl, rules, subst, sym, true, ℕ, ◌++◌, ◌∙◌, ◌≡◌, ◌≤◌, ◌⊎◌}
pub use Rattle.std.specs.Prelude.{Bool, ⊤, ◌&&◌, ◌↔◌}
