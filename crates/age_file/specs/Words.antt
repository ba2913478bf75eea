-- Re-exports names from the crates below, for the clauses and objects of callers.
pub use Rattle.age_header.specs.Device.{Bytes, Known}
pub use Rattle.age_header.specs.Header.{StanzaParts}
pub use Rattle.age_header.specs.declared.file_key.FileKey.{FileKey}
pub use Rattle.age_recipient.specs.Key.{IsFileKey}
pub use Rattle.age_recipient.specs.PassphraseHolders.{IsPassError, PairFits, WorkFits}
pub use Rattle.age_recipient.specs.declared.labels.Labels.{Labels}
pub use Rattle.age_recipient.specs.declared.labels.Labels.TheVariants.{Alone, Names}
pub use Rattle.age_recipient.specs.declared.unwrapped.StanzaFault.{StanzaFault}
pub use Rattle.age_recipient.specs.declared.unwrapped.StanzaFault.TheVariants.{
  ArgCount,
  Salt,
  WorkFactorText,
  WorkFactorTooHigh,
  BodyLength,
}
pub use Rattle.age_recipient.specs.declared.unwrapped.Unwrapped.{Unwrapped}
pub use Rattle.age_recipient.specs.declared.unwrapped.Unwrapped.TheVariants.{
  NotMine,
  Failed,
  Key,
  Malformed,
}
pub use Rattle.age_stream.specs.Reading.{Reading, stop, whole}
pub use Rattle.age_stream.specs.declared.done.Done.{Done}
