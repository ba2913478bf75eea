pub mod Common
pub mod AnswerLemmas
pub mod LabelLemmas
pub mod HeaderSizeLemmas
mod StanzaLemmas
