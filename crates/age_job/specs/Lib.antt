pub mod Job
pub mod Mode
pub mod Names
pub mod Passphrase
pub mod Refusal
pub mod Secret
pub mod Texts
