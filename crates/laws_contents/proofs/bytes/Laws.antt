-- The laws of bytes: what other crates cite.
pub use Rattle.laws_contents.proofs.inside.Slices.{bytes_stand_in_their_page, each_byte_has_its_page, page_goes_on, page_is_a_slice, pages_in_a_row_are_a_slice}
