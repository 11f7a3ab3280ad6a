-- The laws of hints that misled before: what other crates cite.
pub use Rattle.laws_lookup.proofs.inside.Before.{cut_misled_before, make_misled_before, release_misled_before}
pub use Rattle.laws_lookup.proofs.inside.BeforeDirs.{enter_misled_before, leave_misled_before}
pub use Rattle.laws_lookup.proofs.inside.BeforeGrown.{grow_misled_before, widen_misled_before}
pub use Rattle.laws_lookup.proofs.inside.BeforeDrop.{drop_misled_before}
