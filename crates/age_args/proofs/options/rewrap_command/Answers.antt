use Rattle.age_args.proofs.Common.{codes, rules, ◌≡◌, rule_of}
use Rattle.age_args.specs.CommandLine.{option, several}
use Rattle.age_args.proofs.options.rewrap_command.Goals as goal

pub returns : goal.returns
returns c =
    let key_is : rule_of c.action-new_key.result ≡ several (option 75 (codes "new-key")) = search rules in
    c.with_arg.ensures _ _ c.input_word.ensures.0
    (c.with_arg-command-4.ensures _ _ c.seed_option.ensures.0
    (c.with_arg-command-3.ensures _ _ c.work_option.ensures.0
    (c.with_arg-command-2.ensures _ _ key_is
    (c.with_arg-command.ensures _ _ c.text_option-new_pass.ensures.0
    (c.with_opening_options-command.ensures _ c.bare_subcommand-command.ensures)))))
