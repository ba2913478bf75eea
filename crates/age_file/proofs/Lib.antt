pub mod Common
mod AtStateLemmas
mod CopiesLemmas
pub mod DecryptLemmas
mod EncryptLemmas
pub mod FileLemmas
mod FrontLemmas
mod GatheredLemmas
pub mod OwnLabels
mod RangeLemmas
mod RewrapLemmas
pub mod SalvageLaws
mod SalvageLemmas
mod SlicedLemmas
