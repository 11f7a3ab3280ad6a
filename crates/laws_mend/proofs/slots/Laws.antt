-- The laws of slots: what other crates cite.
pub use Rattle.laws_mend.proofs.inside.Reworded.{dir_write_keeps_pages, dir_write_reaches_its_end}
pub use Rattle.laws_mend.proofs.inside.Slotting.{enters_replaces_slots, loose_words_keep_slots, more_words_replace_slots}
