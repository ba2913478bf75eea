pub mod Common
mod ListLemmas
mod DiagonalLemmas
mod HkdfLemmas
mod Pbkdf2Lemmas
mod BlockMixLemmas
mod RoMixLemmas
mod ScryptLemmas
