pub mod Common
mod ArgumentsLemmas
pub mod Base64Lemmas
pub mod DeviceLemmas
pub mod HeaderLemmas
pub mod LengthLemmas
pub mod LinesLemmas
mod MacLemmas
mod MostLemmas
pub mod ReaderLemmas
mod StanzaLemmas
mod StepsLemmas
pub mod TextLemmas
mod Vectors
pub mod VerdictFirstLineLemmas
mod VerdictLaterLinesLemmas
pub mod VerdictPathLemmas
pub mod VerdictTotalLemmas
pub mod VerdictUniqueLemmas
