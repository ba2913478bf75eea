use Rattle.age_args.proofs.options.with_opening_options.Goals as goal

pub returns : goal.returns
returns c shape is =
    c.with_arg.ensures _ _ c.verbose_option.ensures.0
    (c.with_output_options-command.ensures _
    (c.with_arg-command-4.ensures _ _ c.max_header_option.ensures.0
    (c.with_arg-command-3.ensures _ _ c.max_work_option.ensures.0
    (c.with_arg-command-2.ensures _ _ c.key_option.ensures.0
    (c.with_arg-command.ensures _ _ c.passes_option.ensures.0 is)))))
