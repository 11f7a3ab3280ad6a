-- The laws of a drop by two calls: what other crates cite.
pub use Rattle.laws_steps.proofs.inside.Dropping.{drop_is_joined, releases_leave_the_entry}
