-- The laws of entries: what other crates cite.
pub use Rattle.laws_names.proofs.inside.Staying.{entries_stay_on, new_slots_keep_entries, nothing_keeps_entries, widening_keeps_entries}
pub use Rattle.laws_names.proofs.inside.Ending.{leaders_are_listed, names_are_mended, slot_splits}
