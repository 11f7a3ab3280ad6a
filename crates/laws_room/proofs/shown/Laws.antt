-- The laws of what is shown: what other crates cite.
pub use Rattle.laws_room.proofs.inside.Shown.{named_files_are_shown_as_viewed, settling_again_changes_nothing, sound_pack_shows_its_view}
