use Rattle.age_args.proofs.options.encrypt_command.Goals as goal

pub returns : goal.returns
returns c =
    c.with_arg.ensures _ _ c.input_word.ensures.0
    (c.with_arg-command-6.ensures _ _ c.verbose_option.ensures.0
    (c.with_output_options-command.ensures _
    (c.with_arg-command-5.ensures _ _ c.max_header_option.ensures.0
    (c.with_arg-command-4.ensures _ _ c.seed_option.ensures.0
    (c.with_arg-command-3.ensures _ _ c.work_option.ensures.0
    (c.with_arg-command-2.ensures _ _ c.key_option.ensures.0
    (c.with_arg-command.ensures _ _ c.pass_option.ensures.0 c.bare_subcommand-command.ensures)))))))
