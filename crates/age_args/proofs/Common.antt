-- Names for the proofs of this crate, re-exported from one place.
pub use Rattle.age_job.specs.Job.{IsBetween, NamesInput}
pub use Rattle.age_job.specs.declared.job.Command.{Command}
pub use Rattle.age_job.specs.declared.job.Command.TheVariants.{Decrypt, Encrypt, Inspect, Range, Rewrap, Salvage}
pub use Rattle.age_job.specs.declared.job.Job.{Job}
pub use Rattle.age_args.specs.CommandLine.{agep}
pub use Rattle.age_args.specs.JobOf.{AreWrong, AskForText, AsksForHelp, Becomes, HasNumber, IsPiped, IsShown, IsTaken, JobOf, Makes, Reads, header_limit, is_display, name_of, number_or, rest_of}
pub use Rattle.age_args.specs.Words.{texts}
pub use Rattle.age_args.specs.declared.fault.WordsFault.TheVariants.{Memory, Refused}
pub use Rattle.clap.proofs.WalkLemmas.{first_value-rows, one_text-rows, raw_values-rows}
pub use Rattle.clap.specs.Faults.{action_fault, bundle_step_fault, check_fault, default_fault, entered_fault, flag_word_fault, given_default_fault, is_simple_and_free, level_fault, long_fault, option_fault, other_fault, positional_fault, react_fault, settle_fault, short_fault, step_fault, stray_fault, turn_fault, use_fault, values_fault, word_fault}
pub use Rattle.clap.specs.Kinds.{Kinds, or_else, range_kinds, values_kinds}
pub use Rattle.clap.specs.Simple.{argument_words, built, entered, is_simple, label_of, names_of, rows_at, subcommand_rows}
pub use Rattle.clap.specs.Values.{IsUnsignedIn, is_request, refused_kind}
pub use Rattle.clap.specs.Walk.{Held, Names, Outcome, Rule, Step, Waiting, Walk, action_of, after_flag, after_step, answers_to, arg_by_id, arg_by_index, arg_by_long, arg_by_short, at_row, attached_value, bundle_step, default_rows, done, first_of, flag_met, has_row, idle, is_empty, is_pending, long_met, long_or_other, more_values, most_values, next, nothing_held, option, option_met, option_word, plain, plain_word, positional, reacted, reading_by, refused, row_text, rows_after, settled, settled_rows, short_met, short_or_plain, stop_after, subcommand, subcommand_met, subcommand_or_other, takes_several, takes_values, to_positional, trailing, used, used_as, used_by_id, value, values_or_missing, waits, walk_from, walked_from, with_default, with_values, without, word_met}
pub use Rattle.clap.specs.Words.{App, HasKind, HasMatchesOf, IsAmong, ReadsOne, Row, Shape, Text, app_of, fault_of, found_of, kind_of, rows_of, rule_of, shape_of, subcommand_name_of, subcommand_of, subcommand_rows_of, with_subcommand}
pub use Rattle.clap.specs.declared.error.Error.{Error}
pub use Rattle.clap.specs.declared.error.kind.ErrorKind.{ErrorKind}
pub use Rattle.clap.specs.declared.error.kind.ErrorKind.TheVariants.{DisplayHelp, InvalidSubcommand, InvalidValue, MissingRequiredArgument, ValueValidation}
pub use Rattle.clap.specs.declared.parser.matches.ArgMatches.{ArgMatches}
pub use Rattle.std.proofs.Common.{Bool, Bor, Box, Err, Global, IfSome, List, None, Ok, Option, Result, Some, String, [], ap, ap₂, arith, codes, cond, drop, false, get_or, inl, inr, length, length-append, ltb-true, map, nat_lt, not, option_map, refl, rules, subst, suc, sym, take, true, true≢false, unwrap_or, zero, ℕ, ◌&&◌, ◌++◌, ◌+◌, ◌<◌, ◌==◌, ◌||◌, ◌∙◌, ◌∷◌, ◌≡◌, ◌≤◌, ◌⊎◌}
pub use Rattle.std.proofs.lemmas.Bool.{eqb-true, ne_eqb}
pub use Rattle.std.proofs.lemmas.List.{get_or-map, length-map, map_push, nil_from_length, take_more}
pub use Rattle.std.proofs.lemmas.Slice.Eq.{bytes_eq-Decides}
pub use Rattle.std.specs.List.{find, list_all, list_any}
pub use Rattle.std.specs.Option.{option_map_or}
pub use Rattle.std.specs.Prelude.{IfOk, encode_utf8, fold, if◌then◌else◌, is_some, option_and_then, slice_get, ⊤}
pub use Rattle.std.specs.Str.{bytes_eq, chars}
pub use Rattle.std.specs.Str.Parse.{ExplainsUnsignedError, HasUnsignedDigitsIfOk, ParsesBool, ParsesUnsigned}
pub use Rattle.std.specs.String.{string_bytes}
