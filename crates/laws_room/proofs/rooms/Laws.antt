-- The laws of rooms: what other crates cite.
pub use Rattle.laws_room.proofs.Found.{free_sectors_are_those_found}
pub use Rattle.laws_room.proofs.FreeRoom.{free_is_the_room}
pub use Rattle.laws_room.proofs.SoundPacks.{sound_needs_nothing}
pub use Rattle.laws_room.proofs.inside.EachSector.{each_sector_is_used_or_free}
pub use Rattle.laws_room.proofs.inside.Refused.{scavengeable_is_unrefused}
pub use Rattle.laws_room.proofs.SystemFiles.{scavengeable_by_model}
