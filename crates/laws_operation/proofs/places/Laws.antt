-- The laws of places: what other crates cite.
pub use Rattle.laws_operation.proofs.inside.links.OnceOthers.{whole_pack_carries_once}
pub use Rattle.laws_operation.proofs.inside.looks.Borne.{carried_in_place, file_lives_in_a_place, new_serial_names_no_living_file, none_above_the_last_serial, serial_keeps_places, uncarried_page_has_no_place, values_keep_places}
pub use Rattle.laws_operation.proofs.inside.looks.NewPages.{file_that_does_not_live_has_no_page}
pub use Rattle.laws_operation.proofs.inside.looks.ReadFiles.{model_has_the_living}
