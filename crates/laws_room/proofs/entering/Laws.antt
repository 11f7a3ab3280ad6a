-- The laws of entering: what other crates cite.
pub use Rattle.laws_room.proofs.inside.NextEntry.{next_entry_keeps}
pub use Rattle.laws_room.proofs.inside.RootEntries.{free_slots_made_one_keeps, more_room_keeps, slot_that_is_not_kept_keeps}
