use Rattle.age_args.proofs.Common.{ap, ap₂, arith, true, false, ◌≡◌, ◌∙◌, App, Shape, IfOk, Result, Ok, Err, app_of, shape_of, with_subcommand}
use Rattle.clap.specs.Words.{AddsSubcommand}
use Rattle.clap.specs.declared.builder.command.Command.{Command}
use Rattle.clap.specs.declared.builder.command.Command.TheViews.{out-Command}
use Rattle.std.proofs.lemmas.Bool.{and_parts, not-true}
use Rattle.age_args.proofs.options.with_subcommand.Goals as goal

-- a plain command has no global argument
no_globals : (c : Command) {s : Shape} → s.is_plain ≡ true → shape_of c ≡ s → (out-Command c).has_globals ≡ false
no_globals c plain is = grind (arith, and_parts, not-true, ap (λ (x : Shape). x.is_plain) is ∙ plain)

added : {E : Type 0} (r : Result Command E) (old sub : Command) {app : App} {shape : Shape} → shape.is_plain ≡ true
    → app_of old ≡ app → shape_of sub ≡ shape → IfOk r (AddsSubcommand old sub)
    → IfOk r (λ more. app_of more ≡ with_subcommand app shape)
added (Ok new) old sub plain before is adds = adds.shape (no_globals sub plain is) ∙ ap₂ with_subcommand before is
added (Err e) old sub plain before is adds = tt

pub returns : goal.returns
returns c app shape plain before sub =
    let old = rw c.in_ok-command.was at before in
    let new = rw c.in_ok-subcommand.was at sub in
    added c.subcommand.result c.in_ok-command.field-0 c.in_ok-subcommand.field-0 plain old new c.subcommand.ensures
