-- The laws of lines: what other crates cite.
pub use Rattle.laws_line.proofs.inside.Dropped.{drop_leaves_room}
pub use Rattle.laws_line.proofs.inside.NewFile.{new_file_leaves_room}
pub use Rattle.laws_line.proofs.inside.ReadyRoom.{ready_has_room}
pub use Rattle.laws_line.proofs.inside.Renaming.{rename_leaves_room}
pub use Rattle.laws_line.proofs.inside.SoundSettled.{sound_is_settled}
pub use Rattle.laws_line.proofs.inside.Throughout.{changes_leave_room}
