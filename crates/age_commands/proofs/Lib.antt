mod Common
mod InspectLemmas
mod RangeLemmas
mod SalvageLemmas
mod SecretLemmas
pub mod TaskLemmas
mod VerifiedLemmas
