use Rattle.std.proofs.Common.{sym}
use Rattle.age_commands.proofs.recipient.SecretRecipientRecipient.wrap.Goals as goal

pub returns-in-Keys : goal.returns-in-Keys
returns-in-Keys c = rw (c.in-Keys.is, sym c.as_slice.ensures.value) c.wrap_for_keys.ensures
