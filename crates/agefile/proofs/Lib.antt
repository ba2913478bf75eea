mod Common
mod DecryptingLemmas
mod FrontLemmas
mod GroupLemmas
mod HeaderLemmas
pub mod RangeLemmas
mod RunLemmas
mod SalvageLemmas
pub mod SizeLemmas
mod VerdictLemmas
mod UnlockLemmas
mod SealingLemmas
mod HeadingLemmas
mod WrapLemmas
