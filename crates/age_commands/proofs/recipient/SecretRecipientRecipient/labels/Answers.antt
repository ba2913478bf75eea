use Rattle.std.proofs.Common.{inl, ap}
use Rattle.age_recipient.specs.declared.labels.Labels.TheVariants.{Names}
use Rattle.age_recipient.proofs.LabelLemmas.{no_texts}
use Rattle.age_commands.proofs.recipient.SecretRecipientRecipient.labels.Goals as goal

pub returns-in_ok-new-in-Keys : goal.returns-in_ok-new-in-Keys
returns-in_ok-new-in-Keys c = inl (ap Names (no_texts c.in_ok-new-in-Keys.field-0 c.in_ok-new-in-Keys.ensures))
