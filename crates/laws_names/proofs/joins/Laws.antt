-- The laws of joins: what other crates cite.
pub use Rattle.laws_names.proofs.inside.Joining.{keeps_open_breaks_off, keeps_open_ends, keeps_open_join, keeps_open_on, nothing_keeps_open, one_keeps_open, tending_keeps_open}
