use Rattle.age_args.proofs.options.inspect_command.Goals as goal

pub returns : goal.returns
returns c =
    c.with_arg.ensures _ _ c.input_word.ensures.0
    (c.with_arg-command-4.ensures _ _ c.verbose_option.ensures.0
    (c.with_arg-command-3.ensures _ _ c.max_header_option.ensures.0
    (c.with_arg-command-2.ensures _ _ c.text_option-file_key.ensures.0
    (c.with_arg-command.ensures _ _ c.flag-raw.ensures.0 c.bare_subcommand-command.ensures))))
