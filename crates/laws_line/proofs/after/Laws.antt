-- The laws of what is so after a line: what other crates cite.
pub use Rattle.laws_line.proofs.inside.ReadDirectories.{directories_are_read}
pub use Rattle.laws_line.proofs.inside.Roomy.{root_is_directory}
pub use Rattle.laws_line.proofs.inside.SettledAgain.{prefix_ready, settled_after_changes}
pub use Rattle.laws_line.proofs.inside.SettledDrop.{settled_after_drop}
pub use Rattle.laws_line.proofs.inside.SettledNewFile.{new_directory, settled_after_new_file}
pub use Rattle.laws_line.proofs.inside.SettledRename.{settled_after_rename}
