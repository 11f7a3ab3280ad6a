-- The laws of ends: what other crates cite.
pub use Rattle.laws_contents.proofs.inside.Ends.{each_file_has_its_end, last_page_ends_the_file, missing_page_ends_the_file, whole_file_ends_in_a_page}
