-- The law of runs of record writes: what other crates cite.
pub use Rattle.laws_steps.proofs.inside.Runs.{obeys_many}
