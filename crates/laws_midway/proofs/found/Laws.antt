-- What a caller knows of an entry that it looked up, and of its file. What other crates cite.
pub use Rattle.laws_midway.proofs.inside.Beside.{entries_stand_apart}
pub use Rattle.laws_midway.proofs.inside.Founding.{entry_names_a_living_file, found_entry_may_go, found_file_has_its_name, found_file_is_entered, found_file_lives, name_is_its_own}
