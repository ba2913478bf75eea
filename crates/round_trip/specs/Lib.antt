pub mod Calls
pub mod Losses
