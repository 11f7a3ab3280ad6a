-- The laws of directories: what other crates cite.
pub use Rattle.laws_record.proofs.DirKinds.{free_slots_made_one, slot_that_is_not_kept}
pub use Rattle.laws_record.proofs.SystemEntries.{entry_of_a_system_file}
pub use Rattle.laws_record.proofs.inside.AsBefore.{cut_at_slots_reads_same, loose_words_reads_same}
