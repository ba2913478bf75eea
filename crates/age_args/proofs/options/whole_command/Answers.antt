use Rattle.age_args.proofs.Common.{rules, ap, refl, true, ◌≡◌, ◌∙◌, App, app_of, shape_of}
use Rattle.age_args.proofs.options.whole_command.Goals as goal

pub returns : goal.returns
returns c =
    let last : app_of c.subcommand_required.result ≡ record (app_of c.in_ok-command.command)
    { top = record (shape_of c.in_ok-command.command) { subcommand_required = true } } = search rules in
    let all = c.with_subcommand.ensures _ _ refl
    (c.with_subcommand-command-5.ensures _ _ refl
    (c.with_subcommand-command-4.ensures _ _ refl
    (c.with_subcommand-command-3.ensures _ _ refl
    (c.with_subcommand-command-2.ensures _ _ refl
    (c.with_subcommand-command.ensures _ _ refl c.bare_command.ensures c.encrypt_command.ensures)
    c.decrypt_command.ensures)
    c.inspect_command.ensures)
    c.range_command.ensures)
    c.rewrap_command.ensures)
    c.salvage_command.ensures in
    last ∙ ap (λ (a : App). record a { top = record a.top { subcommand_required = true } })
    (rw c.in_ok-command.was at all)
