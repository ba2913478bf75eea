-- Properties of every job.
use Rattle.std.specs.Prelude.{◌≤◌, ℕ, IsSome, ⊤}
use Rattle.std.specs.declared.option.Option.{Option}
use Rattle.age_job.specs.declared.job.Command.{Command}
use Rattle.age_job.specs.declared.job.Command.TheVariants.{Range}
use Rattle.age_job.specs.declared.job.Job.{Job}
use Rattle.age_job.specs.declared.ranges.TheConstants.{MIN_HEADER_SIZE, MIN_WORK_FACTOR, MAX_HEADER_SIZE, MAX_OFFSET, MAX_WORK_FACTOR}

-- n is at least `least` and at most `most`
abbrev pub IsBetween : (least most n : ℕ) → Type 0
IsBetween least most n = (least ≤ n) × (n ≤ most)

-- the job of `range` names the file to read
abbrev pub NamesInput : {A : Type 0} (command : Command) (input : Option A) → Type 0
NamesInput Range input = IsSome input
NamesInput _ input = ⊤

-- each number is in its range, and `range` has a file to read
pub record IsInRange (job : Job) : Type 0 where
  pub work : IsBetween MIN_WORK_FACTOR MAX_WORK_FACTOR job.work
  pub max_work : IsBetween MIN_WORK_FACTOR MAX_WORK_FACTOR job.max_work
  pub max_header : IsBetween MIN_HEADER_SIZE MAX_HEADER_SIZE job.max_header
  pub at : job.at ≤ MAX_OFFSET
  pub len : job.len ≤ MAX_OFFSET
  pub input : NamesInput job.command job.input
