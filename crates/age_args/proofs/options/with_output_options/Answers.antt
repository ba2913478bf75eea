use Rattle.age_args.proofs.options.with_output_options.Goals as goal

pub returns : goal.returns
returns c shape is =
    c.with_arg.ensures _ _ c.long_flag.ensures.0
    (c.with_arg-command-2.ensures _ _ c.flag.ensures.0
    (c.with_arg-command.ensures _ _ c.text_option-output.ensures.0 is))
