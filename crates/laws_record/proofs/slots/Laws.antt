-- The laws of slots: what other crates cite.
pub use Rattle.laws_record.proofs.RoomPlaced.{found_is_placed}
pub use Rattle.laws_record.proofs.inside.SlotReading.{length_is_read, more_after, not_yet, one_by_one, reads_on, reads_to_the_end}
pub use Rattle.laws_record.proofs.inside.SlotWriting.{entry_writes_back}
