pub mod Words
pub mod Inspect
pub mod Output
pub mod Range
pub mod Secret
pub mod Skipping
pub mod Task
