-- The laws of the model's files: what other crates cite.
pub use Rattle.laws_contents.proofs.inside.Modelled.{directory_is_its_pages, leader_is_its_value, model_lengths_are_of_bytes, ordinary_file_is_its_pages, whole_directory_is_all_slots, whole_leader_is_readable}
