pub mod RefusalLemmas
mod SecretLemmas
