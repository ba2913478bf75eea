-- If `clap` finds no fault in the words, the subcommand that they name is a command of the program,
-- and its values are as `IsTaken` says.
use Rattle.age_args.proofs.Common.{◌≡◌, ◌∙◌, ◌<◌, ◌⊎◌, inl, inr, ℕ, Bool, cond, true, false, true≢false, not, ◌&&◌, ◌||◌, ◌==◌, refl, sym, ap, subst, List, [], ◌∷◌, ◌++◌, length, Option, Some, None, IfSome, codes, arith, nat_lt, length-append, ltb-true, bytes_eq-Decides, if◌then◌else◌, is_some, slice_get, option_and_then, option_map, ⊤, find, list_all, list_any, option_map_or, bytes_eq, action_fault, entered_fault, is_simple_and_free, given_default_fault, level_fault, values_fault, Kinds, range_kinds, values_kinds, argument_words, built, entered, is_simple, label_of, names_of, rows_at, IsUnsignedIn, is_request, Rule, action_of, answers_to, at_row, default_rows, first_of, most_values, nothing_held, reading_by, row_text, rows_after, stop_after, used_as, values_or_missing, with_values, used, with_default, agep, HasNumber, IsTaken, name_of, Command, Range}
use Rattle.clap.specs.Facts.{explicit_source, parser_of_value, unwrap_or_range}
use Rattle.clap.specs.Faults.{fault_of}
use Rattle.clap.specs.Simple.{Shape, subcommand_of}
use Rattle.clap.specs.Takes.{is_given}
use Rattle.clap.specs.ValueTests.{accepts}
use Rattle.clap.specs.Walk.{Row, Text}
use Rattle.clap.proofs.ValueTestLemmas.{accepts-Accepts}
use Rattle.clap.specs.declared.builder.action.ArgAction.{ArgAction}
use Rattle.clap.specs.declared.builder.action.ArgAction.TheVariants.{Count}
use Rattle.clap.specs.declared.builder.value_parser.Reading.{Reading}
use Rattle.clap.specs.declared.builder.value_parser.Reading.TheVariants.{AsWritten}
use Rattle.clap.specs.declared.builder.value_parser.ValueParser.{ValueParser}
use Rattle.clap.specs.declared.builder.value_parser.ValueParser.TheVariants as vp
use Rattle.clap.specs.declared.parser.matches.ValueSource.{ValueSource}
use Rattle.clap.specs.declared.parser.matches.ValueSource.TheVariants.{DefaultValue}
use Rattle.age_job.specs.declared.ranges.TheConstants.{MIN_HEADER_SIZE, MIN_WORK_FACTOR, MAX_HEADER_SIZE, MAX_OFFSET, MAX_WORK_FACTOR}
use Rattle.std.proofs.lemmas.Option.{slice_get-get_or}
use Rattle.std.proofs.lemmas.Bool.{and_parts, or_parts, not-false, not-true}
use Rattle.age_args.proofs.LevelLemmas.{DefaultsWell, Each, UsesWell, both_none, found, level_ok}

-- what the values of an option have to pass
abbrev parser_for : Text → ValueParser
parser_for id =
    if bytes_eq id (codes "work") || bytes_eq id (codes "max-work") then vp.Unsigned MIN_WORK_FACTOR MAX_WORK_FACTOR
    else if bytes_eq id (codes "max-header") then vp.Unsigned MIN_HEADER_SIZE MAX_HEADER_SIZE
    else if bytes_eq id (codes "at") || bytes_eq id (codes "len") then vp.Unsigned 0 MAX_OFFSET
    else vp.String

abbrev Passes : Text → Text → Type 0
Passes id v = accepts false (parser_for id) v ≡ true

-- a row has one or more values, which pass and are read as they are written
abbrev RowPasses : Row → Type 0
RowPasses r = (r.reading ≡ AsWritten) × (0 < length r.values) × Each (Passes r.id) r.values

-- ---- the rules of the command line, by a test

abbrev covers : ValueParser → ValueParser → Bool
covers vp.String q = true
covers (vp.Unsigned a b) (vp.Unsigned x y) = a == x && b == y
covers p q = false

abbrev is_as_written : Reading → Bool
is_as_written AsWritten = true
is_as_written r = false

abbrev is_count : ArgAction → Bool
is_count Count = true
is_count a = false

abbrev has_value : Rule → Bool
has_value a =
    is_request (action_of a) || (nat_lt 0 (unwrap_or_range a.range).start_inclusive || nat_lt 0 (length a.missing))

abbrev is_good : Rule → Bool
is_good a = covers (parser_for a.id) (parser_of_value a.parser)
    && (not a.ignore_case && (is_as_written (reading_by a) && (not (is_count (action_of a)) && has_value a)))

-- ---- lists

each_append : {X : Type 0} (P : X → Type 0) (xs ys : List X) → Each P xs → Each P ys → Each P (xs ++ ys)
each_append P [] ys p q = q
each_append P (x ∷ xs) ys p q = (p.0, each_append P xs ys p.1 q)

-- ---- one row more or less

at_row_passes : (id : Text) (change : Row → List Row) (missing rows : List Row)
    → ((r : Row) → bytes_eq r.id id ≡ true → RowPasses r → Each RowPasses (change r)) → Each RowPasses missing
    → Each RowPasses rows → Each RowPasses (at_row id change missing rows)
at_row_passes id change missing [] c m q = m
at_row_passes id change missing (r ∷ rs) c m q = grind (arith, cond, each_append, at_row_passes id change missing rs c m q.1)

with_values_passes : (id : Text) {how : Reading} (s : ValueSource) (values : List Text) (rows : List Row)
    → how ≡ AsWritten
    → 0 < length values → Each (Passes id) values → Each RowPasses rows
    → Each RowPasses (with_values id how s values rows)
with_values_passes id s values rows written some pass q = grind (arith, at_row_passes, bytes_eq-Decides, length-append, each_append)

-- ---- one use

accepts_too : (p q : ValueParser) (v : Text) → covers p q ≡ true → accepts false q v ≡ true → accepts false p v ≡ true
accepts_too a b c d e = grind (arith, and_parts, true≢false)

values_pass : (id : Text) (parser : ValueParser) (values : List Text) → covers (parser_for id) parser ≡ true
    → values_kinds false parser values ≡ [] → Each (Passes id) values
values_pass id parser [] fits e = tt
values_pass id parser (v ∷ vs) fits e = grind (arith, accepts_too, both_none, values_pass id parser vs fits)

-- what it means that `is_good` is true of a rule
record IsGood (a : Rule) : Type 0 where
  covered : covers (parser_for a.id) (parser_of_value a.parser) ≡ true
  exact : a.ignore_case ≡ false
  written : reading_by a ≡ AsWritten
  no_count : is_count (action_of a) ≡ false
  value : has_value a ≡ true

good_of : (a : Rule) → is_good a ≡ true → IsGood a
good_of a e = grind (arith, and_parts, not-true)

given_passes : {a : Rule} → IsGood a → (s : ValueSource) (values : List Text) (rows : List Row)
    → nat_lt 0 (length values) ≡ true
    → values_fault a values ≡ [] → Each RowPasses rows
    → Each RowPasses (with_values a.id (reading_by a) s values rows)
given_passes g s values rows some e q =
    grind (arith, with_values_passes, ltb-true, values_pass, g.covered, g.written, g.exact)

stored : (again : Bool) {a : Rule} → IsGood a → (x : ArgAction) → is_count x ≡ false
    → (values : List Text) (rows : List Row)
    → (is_request x || nat_lt 0 (length values)) ≡ true
    → action_fault x again a values rows ≡ [] → Each RowPasses rows
    → Each RowPasses (used_as x a.id (reading_by a) values rows)
stored again g x c values rows some e q = grind (arith, given_passes, both_none, at_row_passes)

one_value : (a : Rule) (values : List Text)
    → (nat_lt 0 (unwrap_or_range a.range).start_inclusive || nat_lt 0 (length a.missing)) ≡ true
    → range_kinds (unwrap_or_range a.range).start_inclusive (most_values a) (length values) ≡ []
    → nat_lt 0 (length (values_or_missing a values)) ≡ true
one_value a values some e = grind arith

used_well : (again : Bool) (a : Rule) → is_good a ≡ true → UsesWell again RowPasses a
used_well again a good values rows e q = grind (arith, good_of, both_none, stored, one_value)

defaults_well : (again : Bool) (a : Rule) → is_good a ≡ true → DefaultsWell again RowPasses a
defaults_well again a good rows e q = grind (arith, given a.defaults)
  where
    given : (values : List Text) → given_default_fault a values ≡ []
        → Each RowPasses (default_rows a.id (reading_by a) values rows)
    given [] f = q
    given (v ∷ vs) f = given_passes (good_of a good) DefaultValue (v ∷ vs) rows (grind arith) (both_none f).1 q

-- ---- what the rows of a level give

found_where : {X : Type 0} (U : X → Type 0) (p : X → Bool) (xs : List X) → Each U xs
    → IfSome (find p xs) (λ x. (p x ≡ true) × U x)
found_where U p [] h = tt
found_where U p (x ∷ xs) h = grind (arith, found_where U p xs h.1)

has_number : {least most : ℕ} (id : Text) (rows : List Row) → parser_for id ≡ vp.Unsigned least most
    → Each RowPasses rows → HasNumber least most id rows
has_number {least} {most} id rows p q =
    go (find (λ r. bytes_eq r.id id) rows) (found_where RowPasses (λ r. bytes_eq r.id id) rows q)
  where
    first : (r : Row) (values : List Text) → r.reading ≡ AsWritten → Each (Passes id) values
        → IfSome (option_map (Rattle.clap.specs.Values.read_as r.reading) (slice_get values 0))
        (IsUnsignedIn least most)
    first r [] w e = tt
    first r (v ∷ vs) w e =
        rw w (accepts-Accepts false (vp.Unsigned least most) v (rw p at e.0))

    go : (o : Option Row) → IfSome o (λ r. (bytes_eq r.id id ≡ true) × RowPasses r)
        → IfSome (option_and_then row_text o) (IsUnsignedIn least most)
    go None h = tt
    go (Some r) (is, (written, some, passes)) =
        first r r.values written (subst (λ (i : Text). Each (Passes i) r.values)
        ((bytes_eq-Decides r.id id).0 is) passes)

-- ---- what is required is there

wanted_given : (id : Text) (rules : List Rule) (rows : List Row)
    → list_any (λ a. a.required && not (is_given a.id rows)) rules ≡ false
    → list_any (λ a. a.required && bytes_eq a.id id) rules ≡ true → is_given id rows ≡ true
wanted_given id [] rows none some = absurd (true≢false (sym some))
wanted_given id (a ∷ rest) rows none some = grind (arith, bytes_eq-Decides, not-false, or_parts, wanted_given id rest rows)

given_first : (id : Text) (rows : List Row) → Each RowPasses rows → is_given id rows ≡ true
    → is_some (first_of id rows) ≡ true
given_first id rows q g = go (find (λ r. bytes_eq r.id id) rows) (found RowPasses (λ r. bytes_eq r.id id) rows q) g
  where
    go : (o : Option Row) → IfSome o RowPasses → option_map_or (λ r. explicit_source r.source) o false ≡ true
        → is_some (option_and_then (λ r. slice_get r.values 0) o) ≡ true
    go None h e = cc
    go (Some r) h e = ap is_some (slice_get-get_or r.values 0 [] h.1)

-- ---- a subcommand

abbrev wants : Command → Shape → Bool
wants Range s = list_any (λ a. a.required && bytes_eq a.id (codes "input")) s.rules
wants command s = true

abbrev is_good_for : Command → Shape → Bool
is_good_for command s = not s.subcommand_negates_reqs && (list_all is_good s.rules && wants command s)

-- the subcommand is `help`, or a command of the program whose rules pass the test (`is_good_for`)
abbrev Makes : Shape → Type 0
Makes s = (s.name ≡ codes "help") ⊎ ((command : Command) × (s.name ≡ name_of command) × (is_good_for command s ≡ true))

all_make : Each (λ s. Makes s × (s.aliases ≡ [])) (built agep).subs
all_make = grind arith

each_of : {X : Type 0} {P : X → Type 0} (xs : List X) → ((x : X) → P x) → Each P xs
each_of [] p = tt
each_of (x ∷ xs) p = (p x, each_of xs p)

each_good : {P : Rule → Type 0} (rules : List Rule) → ((a : Rule) → is_good a ≡ true → P a)
    → list_all is_good rules ≡ true → Each P rules
each_good [] p e = tt
each_good (a ∷ rest) p e = let h = and_parts _ _ e in (p a h.0, each_good rest p h.1)

level_taken : {command : Command} (s : Shape) (words : List Text) → is_good_for command s ≡ true
    → level_fault s [] nothing_held words false [] ≡ []
    → IsTaken command (rows_after s.rules [] words)
level_taken {command} s words good e =
    let g = and_parts _ _ good in
    let h = and_parts _ _ g.1 in
    let rows = rows_after s.rules [] words in
    let level = level_ok s [] RowPasses (λ _. ⊤) (each_good s.rules (used_well s.args_override_self) h.0)
    (each_good s.rules (defaults_well s.args_override_self) h.0) (λ _ _. tt) words false [] e in
    let named = given_first (codes "input") rows level.0 in
    record {
      work = has_number (codes "work") rows refl level.0;
      max_work = has_number (codes "max-work") rows refl level.0;
      max_header = has_number (codes "max-header") rows refl level.0;
      at = has_number (codes "at") rows refl level.0;
      len = has_number (codes "len") rows refl level.0;
      input = grind (arith, named, wanted_given (codes "input") s.rules rows, not-true);
    }

abbrev pub Taken : Text → List Row → Type 0
Taken name rows = (command : Command) × (name ≡ name_of command) × IsTaken command rows

anything : (rows : List Row) → Each (λ (r : Row). ⊤) rows
anything rows = each_of rows (λ _. tt)

no_help : (words : List Text) (has : Bool) (below : Kinds)
    → level_fault (built agep).top (names_of (built agep)) nothing_held words has below ≡ []
    → IfSome (stop_after (built agep).top.rules (names_of (built agep)) words)
    (λ p. bytes_eq p.0 (codes "help") ≡ false)
no_help words has below none =
    let top = (built agep).top in
    (level_ok top (names_of (built agep)) (λ _. ⊤) (λ name. bytes_eq name (codes "help") ≡ false)
    (each_of {P = UsesWell top.args_override_self (λ _. ⊤)} top.rules (λ a vs rows e q. anything (used a vs rows)))
    (each_of {P = DefaultsWell top.args_override_self (λ _. ⊤)} top.rules (λ a rs e q. anything (with_default rs a)))
    (λ name e. grind arith) words has below none).1

-- `help` is entered only by its name
is_help : (s : Shape) (word : Text) → s.name ≡ codes "help" → s.aliases ≡ [] → answers_to word (label_of s) ≡ true
    → bytes_eq word (codes "help") ≡ true
is_help s word name none e = grind (arith, bytes_eq-Decides)

pub pair_same : {a b : Text} {x y : List Row} → ◌≡◌ {A = Option (Text × List Row)} (Some (a, x)) (Some (b, y)) → (a ≡ b)
    × (x ≡ y)
pair_same {a} {b} {x} {y} e = grind arith

at_shape : {name : Text} {rows : List Row} (p : Text × List Text) → bytes_eq p.0 (codes "help") ≡ false
    → (o : Option Shape)
    → IfSome o (λ s. (answers_to p.0 (label_of s) ≡ true) × (Makes s × (s.aliases ≡ [])))
    → option_map_or (λ s. level_fault s [] nothing_held p.1 false []) o [] ≡ []
    → option_map (λ s. rows_at s p.1) o ≡ Some (name, rows) → Taken name rows
at_shape p not_help None h e f = cc
at_shape p not_help (Some s) (answers, (inl help, none)) e f = grind (arith, is_help s p.0 help none answers)
at_shape p not_help (Some s) (answers, (inr (command, is, good), none)) e f =
    let same = pair_same f in (command, sym same.0 ∙ is, subst (IsTaken command) same.1 (level_taken s p.1 good e))

at_stop : {name : Text} {rows : List Row} (o : Option (Text × List Text))
    → IfSome o (λ p. bytes_eq p.0 (codes "help") ≡ false)
    → entered_fault (built agep) o ≡ [] → entered (built agep) o ≡ Some (name, rows) → Taken name rows
at_stop None h e f = cc
at_stop (Some p) h e f = at_shape p h _ (found_where _ (λ s. answers_to p.0 (label_of s)) (built agep).subs all_make) e f

-- where there is no fault, the subcommand that was named is a command of the program, and its values
-- are as `IsTaken` says
pub taken : (words : List Text) {name : Text} {rows : List Row} → fault_of agep words ≡ []
    → subcommand_of agep words ≡ Some (name, rows) → Taken name rows
taken words none is = at_stop _ (no_help (argument_words agep words) _ _ none) (both_none (both_none none).1).0 is

pub one_command : {a b : Command} → name_of a ≡ name_of b → a ≡ b
one_command {a} {b} e = grind arith

pub agep_is_free : is_simple_and_free agep ≡ true
agep_is_free = refl

pub agep_is_simple : is_simple agep ≡ true
agep_is_simple = refl
