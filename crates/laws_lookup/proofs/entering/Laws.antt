-- The laws of entering: what other crates cite.
pub use Rattle.laws_lookup.proofs.inside.Fitting.{apart_entry_fits, apart_entry_may_be_entered}
