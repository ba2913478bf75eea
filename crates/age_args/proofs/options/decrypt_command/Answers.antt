use Rattle.age_args.proofs.options.decrypt_command.Goals as goal

pub returns : goal.returns
returns c =
    c.with_arg.ensures _ _ c.input_word.ensures.0
    (c.with_arg-command.ensures _ _ c.flag.ensures.0
    (c.with_opening_options-command.ensures _ c.bare_subcommand-command.ensures))
