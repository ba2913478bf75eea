pub mod Common
pub mod CuttingLemmas
pub mod JudgesLastLemmas
pub mod LoadLemmas
pub mod OpeningLemmas
pub mod PayloadLemmas
pub mod RangeLemmas
pub mod ReadAtLemmas
pub mod ReadingLemmas
pub mod SalvageLemmas
pub mod SalvageReading
mod SalvageSlices
pub mod SealingLemmas
pub mod SliceLemmas
mod Vectors
pub mod WholeSlices
pub mod WritesAllLemmas
