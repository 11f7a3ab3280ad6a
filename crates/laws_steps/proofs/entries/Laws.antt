-- The laws of entries in a line: what other crates cite.
pub use Rattle.laws_steps.proofs.inside.Entered.{entered_is_meant, entered_stays}
