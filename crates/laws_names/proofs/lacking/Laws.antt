-- The laws of lacking: what other crates cite.
pub use Rattle.laws_names.proofs.inside.MoreRoom.{no_room_is_none, root_widening_leaves, widened_has_room, widening_has_its_sector}
pub use Rattle.laws_names.proofs.inside.Unlacking.{lacking_are_adopted, none_lacking_is_named}
pub use Rattle.laws_names.proofs.inside.NextKept.{next_may_be_entered}
