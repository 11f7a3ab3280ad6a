-- The laws of slots: what other crates cite.
pub use Rattle.laws_lookup.proofs.inside.Found.{absent_name_is_open, entry_at_is_a_slot, found_entry_has_the_name, found_entry_splits_the_slots, found_entry_stands}
pub use Rattle.laws_lookup.proofs.inside.Walking.{held_goes_on, lookup_goes_on, walk_begins, walk_ends, walk_goes_on}
pub use Rattle.laws_lookup.proofs.inside.Wanting.{entry_at_is_the_entry_wanted, greatest_is_the_models, held_at_is_held, held_is_the_models, lookup_is_the_models, version_met_is_the_greatest}
