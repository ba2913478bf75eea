-- The modes of files that the commands create.
use Rattle.std.specs.Prelude.{ℕ}
use Rattle.age_job.specs.declared.job.Command.{Command}
use Rattle.age_job.specs.declared.job.Command.TheVariants as command
use Rattle.age_job.specs.declared.output.TheConstants.{FILE_MODE, PLAINTEXT_MODE}

-- the mode of a new file by its command; a file with a plaintext has one of its own
abbrev pub new_mode : Command → ℕ
new_mode command.Decrypt = PLAINTEXT_MODE
new_mode command.Range = PLAINTEXT_MODE
new_mode command.Salvage = PLAINTEXT_MODE
new_mode _ = FILE_MODE
