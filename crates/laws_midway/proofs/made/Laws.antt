-- Hints for a new file, once it is made. What other crates cite.
pub use Rattle.laws_midway.proofs.inside.Made.{handy_after_make}
