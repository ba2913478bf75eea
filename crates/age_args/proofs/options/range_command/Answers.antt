use Rattle.age_args.proofs.options.range_command.Goals as goal

pub returns : goal.returns
returns c =
    c.with_arg.ensures _ _ c.required_word.ensures.0
    (c.with_arg-command-2.ensures _ _ c.offset_word-len.ensures.0
    (c.with_arg-command.ensures _ _ c.offset_word-at.ensures.0
    (c.with_opening_options-command.ensures _ c.bare_subcommand-command.ensures)))
