-- The laws of the Scavenger: what other crates cite.
pub use Rattle.scavenger.proofs.Turning.{first_line_may_scavenge, scavenge_is_a_turn}
