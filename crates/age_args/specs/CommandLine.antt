-- The command line of the program: its commands, and the options and arguments of each.
use Rattle.std.specs.Prelude.{◌≡◌, ℕ, List, [], ◌∷◌, ◌++◌, Some, true, false, codes, fold, slice_index}
use Rattle.clap.specs.Simple.{new_shape}
use Rattle.clap.specs.Words.{App, Rule, Shape, Text, new_rule, rule_of}
use Rattle.clap.specs.declared.builder.action.ArgAction.TheVariants.{Set, Append, SetTrue}
use Rattle.clap.specs.declared.builder.value_parser.ValueParser.TheVariants.{Unsigned}
use Rattle.clap.specs.declared.builder.arg.Arg.{Arg}

-- the code of a letter
abbrev pub letter : (text : Text) → ℕ
letter text = slice_index text 0

-- a positional argument
abbrev pub word : (name : Text) → Rule
word name = record (new_rule name) { action = Some Set; value_names = 1 }

-- an option with a value, given once: -s VALUE or --name VALUE, where s is a character's code
abbrev pub option : (s : ℕ) (name : Text) → Rule
option s name = record (word name) { long = Some name; short = Some s }

-- an option without a value, --name
abbrev pub long_flag : (name : Text) → Rule
long_flag name = record (new_rule name) { long = Some name; action = Some SetTrue }

-- an option without a value, -s or --name
abbrev pub flag : (s : ℕ) (name : Text) → Rule
flag s name = record (long_flag name) { short = Some s }

abbrev pub required : Rule → Rule
required rule = record rule { required = true }

abbrev pub number : (least most : ℕ) → Rule → Rule
number least most rule = record rule { parser = Some (Unsigned least most) }

abbrev pub default : (value : Text) → Rule → Rule
default value rule = record rule { defaults = value ∷ [] }

-- an option that may be given several times
abbrev pub several : Rule → Rule
several rule = record rule { action = Some Append }

abbrev pub pass : Rule
pass = option (letter (codes "p")) (codes "passphrase")

abbrev pub key : Rule
key = several (option (letter (codes "k")) (codes "key"))

abbrev pub work : Rule
work = default (codes "18") (number 1 30 (option (letter (codes "w")) (codes "work")))

abbrev pub max_work : Rule
max_work = default (codes "22") (number 1 30 (option (letter (codes "m")) (codes "max-work")))

abbrev pub max_header : Rule
max_header = default (codes "65536")
    (number 1024 16777216 (option (letter (codes "H")) (codes "max-header")))

abbrev pub seed : Rule
seed = default (codes "/dev/urandom") (option (letter (codes "s")) (codes "seed"))

abbrev pub verbose : Rule
verbose = flag (letter (codes "v")) (codes "verbose")

abbrev pub input : Rule
input = word (codes "input")

abbrev pub offset : (name : Text) → Rule
offset name = number 0 9223372036854775807 (required (word name))

-- a command with one more option or argument, and with several
abbrev pub with_rule : (command : Shape) (rule : Rule) → Shape
with_rule command rule = record command { rules = command.rules ++ rule ∷ [] }

abbrev pub with_rules : (command : Shape) (rules : List Rule) → Shape
with_rules command rules = fold with_rule command rules

abbrev pub command : (name : Text) (rules : List Rule) → Shape
command name rules = record (new_shape name) { rules = rules }

-- the options of the commands that write OUT
abbrev pub writing : List Rule
writing = option (letter (codes "o")) (codes "output")
    ∷ flag (letter (codes "n")) (codes "no-clobber") ∷ long_flag (codes "atomic") ∷ []

-- the options of the commands that unlock a file
abbrev pub opening : List Rule
opening = several pass ∷ key ∷ max_work ∷ max_header ∷ writing ++ verbose ∷ []

abbrev pub encrypt : Shape
encrypt = command (codes "encrypt")
    (pass ∷ key ∷ work ∷ seed ∷ max_header ∷ writing ++ verbose ∷ input ∷ [])

abbrev pub decrypt : Shape
decrypt = command (codes "decrypt")
    (opening ++ flag (letter (codes "d")) (codes "decrypt") ∷ input ∷ [])

abbrev pub inspect : Shape
inspect = command (codes "inspect") (flag (letter (codes "r")) (codes "raw")
    ∷ option (letter (codes "f")) (codes "file-key") ∷ max_header ∷ verbose ∷ input ∷ [])

abbrev pub range : Shape
range = command (codes "range")
    (opening ++ offset (codes "at") ∷ offset (codes "len") ∷ required input ∷ [])

abbrev pub rewrap : Shape
rewrap = command (codes "rewrap") (opening ++ option (letter (codes "P")) (codes "new-pass")
    ∷ several (option (letter (codes "K")) (codes "new-key")) ∷ work ∷ seed ∷ input ∷ [])

abbrev pub salvage : Shape
salvage = command (codes "salvage") (opening ++ input ∷ [])

-- the program with its commands, of which one is required; each has the program's version
abbrev pub agep : App
agep = record {
  top = record (new_shape (codes "agep"))
      { has_version = true; propagate_version = true; is_leaf = false; subcommand_required = true };
  subs = encrypt ∷ decrypt ∷ inspect ∷ range ∷ rewrap ∷ salvage ∷ [];
}

-- the argument has this rule and is not global: subcommands do not inherit it
abbrev pub IsArg : (rule : Rule) (arg : Arg) → Type 0
IsArg rule arg = (rule_of arg ≡ rule) × (arg.global ≡ false)
