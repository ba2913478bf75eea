-- The name of `clap` that callers' clauses cite.
pub use Rattle.clap.specs.Walk.{texts}
