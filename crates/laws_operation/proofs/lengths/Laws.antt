-- The laws of lengths: what other crates cite.
pub use Rattle.laws_operation.proofs.inside.looks.Counted.{full_page_is_not_the_last, length_by_the_last_page, pages_before_the_last_are_full, placed_pages_are_those_up_to_the_last}
