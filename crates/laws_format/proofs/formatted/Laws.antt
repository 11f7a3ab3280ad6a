-- The laws of the formatted pack: what other crates cite.
pub use Rattle.laws_format.proofs.inside.Formats.{formatted_descriptor_fits, formatted_leaders_are_handy, formatted_pack_begins_a_session, formatted_pack_has_free_sectors, formatted_pack_is_empty, formatted_pack_shows_nothing}
pub use Rattle.laws_format.proofs.inside.Standing.{formatted_sectors_stand}
pub use Rattle.laws_format.proofs.inside.Writes.{formatting_goes_on, formatting_leaves_its_pack, sectors_come_in_place}
