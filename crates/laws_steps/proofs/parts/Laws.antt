-- The laws of a line in two parts: what other crates cite.
pub use Rattle.laws_steps.proofs.inside.Parts.{pages_of_both_parts, steps_of_both_parts}
