-- The laws of writes: what other crates cite.
pub use Rattle.laws_names.proofs.inside.Freed.{loose_words_leave, unkept_slot_is_freed}
pub use Rattle.laws_names.proofs.inside.Rooms.{room_is_found, room_is_made_one, room_words_leave}
pub use Rattle.laws_names.proofs.inside.NextEntered.{next_entry_is_entered}
pub use Rattle.laws_names.proofs.inside.Addressed.{address_is_written}
pub use Rattle.laws_names.proofs.inside.WrittenWords.{standing_words_write_nothing, written_words_stand}
