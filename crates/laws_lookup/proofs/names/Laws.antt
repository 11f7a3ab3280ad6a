-- The laws of names: what other crates cite.
pub use Rattle.laws_lookup.proofs.inside.Newer.{new_name_is_absent, new_name_is_absent_in_the_model, slots_have_stored_names}
pub use Rattle.laws_lookup.proofs.inside.Open.{open_name_stays_open, slots_stay}
