-- The laws of all record writes of an operation: what other crates cite.
pub use Rattle.laws_call.proofs.inside.Knowing.{written_stays_known}
pub use Rattle.laws_call.proofs.inside.Writing.{written_acts}
