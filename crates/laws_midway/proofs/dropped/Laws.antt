-- All other files after a whole drop. What other crates cite.
pub use Rattle.laws_midway.proofs.inside.Dropped.{drop_leaves_others}
