-- The laws of entries: what other crates cite.
pub use Rattle.laws_operation.proofs.inside.looks.Nameless.{entries_name_living_files}
pub use Rattle.laws_operation.proofs.inside.looks.ReadFiles.{items_are_slots, read_entries_are_kept}
pub use Rattle.laws_operation.proofs.inside.looks.Unmoved.{bytes_leaders_and_widenings_keep_entries}
