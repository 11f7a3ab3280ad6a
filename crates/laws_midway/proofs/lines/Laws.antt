-- Hints in the middle of a line. What other crates cite.
pub use Rattle.laws_midway.proofs.inside.Lining.{later_answer_misled_before, later_misled_before}
