-- The job of a command with its options.
use Rattle.std.specs.Prelude.{◌≡◌, ◌≢◌, ◌⊎◌, ◌∷◌, ℕ, Bool, true, false, not, List, [], Some, None, Result, Ok, Err, codes, drop, map, option_map, unwrap_or, IfSome, ⊤}
use Rattle.std.specs.List.{list_any}
use Rattle.std.specs.Option.{option_map_or}
use Rattle.std.specs.Str.{bytes_eq}
use Rattle.std.specs.Str.Parse.{digits_value, without_leading_plus}
use Rattle.std.specs.String.{string_bytes}
use Rattle.clap.specs.Values.{IsUnsignedIn}
use Rattle.clap.specs.Words.{IsAmong, Row, Text, all_of, fault_of, first_of, kind_of, one_of, subcommand_of}
use Rattle.clap.specs.declared.error.Error.{Error}
use Rattle.clap.specs.declared.error.kind.ErrorKind.{ErrorKind}
use Rattle.clap.specs.declared.error.kind.ErrorKind.TheVariants.{DisplayHelp, DisplayVersion, OutOfMemory}
use Rattle.age_args.specs.CommandLine.{agep}
use Rattle.age_job.specs.Job.{NamesInput}
use Rattle.age_job.specs.declared.job.Command.{Command}
use Rattle.age_job.specs.declared.job.Command.TheVariants.{Encrypt, Decrypt, Inspect, Range, Rewrap, Salvage}
use Rattle.age_job.specs.declared.job.Job.{Job}
use Rattle.age_args.specs.declared.fault.WordsFault.{WordsFault}
use Rattle.age_args.specs.declared.fault.WordsFault.TheVariants.{Memory, Refused}
use Rattle.age_args.specs.declared.options.TheConstants.{DEFAULT_MAX_HEADER, DEFAULT_MAX_WORK, DEFAULT_WORK}
use Rattle.age_job.specs.declared.ranges.TheConstants.{DEFAULT_SEED, MIN_HEADER_SIZE, MIN_WORK_FACTOR, MAX_HEADER_SIZE, MAX_OFFSET, MAX_WORK_FACTOR}

abbrev pub name_of : (command : Command) → Text
name_of Encrypt = codes "encrypt"
name_of Decrypt = codes "decrypt"
name_of Inspect = codes "inspect"
name_of Range = codes "range"
name_of Rewrap = codes "rewrap"
name_of Salvage = codes "salvage"

-- the values of an option after the first
abbrev pub rest_of : (id : Text) (rows : List Row) → List Text
rest_of id rows = drop 1 (unwrap_or (all_of id rows) [])

-- the number of an option, or `default` if the rows have no value of the option
abbrev pub number_or : (default : ℕ) (id : Text) (rows : List Row) → ℕ
number_or default id rows =
    option_map_or (λ text. digits_value 10 (without_leading_plus text)) (one_of id rows) default

abbrev pub is_set : (id : Text) (rows : List Row) → Bool
is_set id rows = option_map_or (λ text. bytes_eq text (codes "true")) (one_of id rows) false

-- each field but `command` is its option's first value, later values, number, flag, or the default
pub record JobOf (rows : List Row) (job : Job) : Type 0 where
  pub pass : option_map string_bytes job.pass ≡ first_of (codes "passphrase") rows
  pub more_passes : map string_bytes job.more_passes.items ≡ rest_of (codes "passphrase") rows
  pub key : option_map string_bytes job.key ≡ first_of (codes "key") rows
  pub more_keys : map string_bytes job.more_keys.items ≡ rest_of (codes "key") rows
  pub new_pass : option_map string_bytes job.new_pass ≡ first_of (codes "new-pass") rows
  pub new_key : option_map string_bytes job.new_key ≡ first_of (codes "new-key") rows
  pub more_new_keys : map string_bytes job.more_new_keys.items ≡ rest_of (codes "new-key") rows
  pub work : job.work ≡ number_or DEFAULT_WORK (codes "work") rows
  pub seed : string_bytes job.seed ≡ unwrap_or (first_of (codes "seed") rows) DEFAULT_SEED.now
  pub max_work : job.max_work ≡ number_or DEFAULT_MAX_WORK (codes "max-work") rows
  pub max_header : job.max_header ≡ number_or DEFAULT_MAX_HEADER (codes "max-header") rows
  pub output : option_map string_bytes job.output ≡ first_of (codes "output") rows
  pub no_clobber : job.no_clobber ≡ is_set (codes "no-clobber") rows
  pub atomic : job.atomic ≡ is_set (codes "atomic") rows
  pub raw : job.raw ≡ is_set (codes "raw") rows
  pub file_key : option_map string_bytes job.file_key ≡ first_of (codes "file-key") rows
  pub input : option_map string_bytes job.input ≡ first_of (codes "input") rows
  pub at : job.at ≡ number_or 0 (codes "at") rows
  pub len : job.len ≡ number_or 0 (codes "len") rows
  pub verbose : job.verbose ≡ is_set (codes "verbose") rows

-- The words make this job: `clap` has no reason to refuse them, and they name its command and its
-- options.
abbrev pub Makes : (words : List Text) (job : Job) → Type 0
Makes words job =
    (fault_of agep words ≡ []) × ((rows : List Row)
    × (subcommand_of agep words ≡ Some (name_of job.command, rows)) × JobOf rows job)

-- the words ask for help on `help`
abbrev pub AsksForHelp : (words : List Text) → Type 0
AsksForHelp words = (program option : Text) × (words ≡ program ∷ codes "help" ∷ option ∷ [])
    × ((option ≡ codes "--help") ⊎ (option ≡ codes "-h"))

-- the result of parsing the words: their job; `Memory`, which says nothing about them; or an error
-- with one of the reasons for which `clap` refuses them
abbrev pub Reads : (words : List Text) (result : Result Job WordsFault) → Type 0
Reads words (Ok job) = Makes words job
Reads words (Err Memory) = ⊤
Reads words (Err (Refused error)) = IsAmong (kind_of error) (fault_of agep words)

-- the words name this command, and no file for its input or its output
abbrev pub IsPiped : (command : Command) (words : List Text) → Type 0
IsPiped command words =
    (rows : List Row) × (subcommand_of agep words ≡ Some (name_of command, rows))
    × (first_of (codes "input") rows ≡ None) × (first_of (codes "output") rows ≡ None)

-- the maximum size of a header that the words set, or else the default
abbrev pub header_limit : (words : List Text) → ℕ
header_limit words =
    option_map_or (λ named. number_or DEFAULT_MAX_HEADER (codes "max-header") named.1)
    (subcommand_of agep words) DEFAULT_MAX_HEADER

-- the reason is that the words ask for help or the version
abbrev pub is_display : (reason : ErrorKind) → Bool
is_display DisplayHelp = true
is_display DisplayVersion = true
is_display reason = false

-- the error has help or the version to show
abbrev pub IsShown : (error : Error) → Type 0
IsShown error = is_display (kind_of error) ≡ true

-- the words ask for help or the version
abbrev pub AskForText : (words : List Text) → Type 0
AskForText words = list_any is_display (fault_of agep words) ≡ true

abbrev pub AreWrong : (words : List Text) → Type 0
AreWrong words = list_any (λ reason. not (is_display reason)) (fault_of agep words) ≡ true

-- the fault for an error of `clap`
abbrev pub Becomes : (error : Error) (fault : WordsFault) → Type 0
Becomes error Memory = kind_of error ≡ OutOfMemory
Becomes error (Refused refused) = (refused ≡ error) × (kind_of error ≢ OutOfMemory)

-- the number of an option, if there is one, is in its range
abbrev pub HasNumber : (least most : ℕ) (id : Text) (rows : List Row) → Type 0
HasNumber least most id rows = IfSome (one_of id rows) (IsUnsignedIn least most)

-- what `clap` guarantees about the values of a command: each number is in its range, and `range`
-- has a file to read
pub record IsTaken (command : Command) (rows : List Row) : Type 0 where
  pub work : HasNumber MIN_WORK_FACTOR MAX_WORK_FACTOR (codes "work") rows
  pub max_work : HasNumber MIN_WORK_FACTOR MAX_WORK_FACTOR (codes "max-work") rows
  pub max_header : HasNumber MIN_HEADER_SIZE MAX_HEADER_SIZE (codes "max-header") rows
  pub at : HasNumber 0 MAX_OFFSET (codes "at") rows
  pub len : HasNumber 0 MAX_OFFSET (codes "len") rows
  pub input : NamesInput command (first_of (codes "input") rows)
