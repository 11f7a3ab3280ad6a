-- The laws of pages: what other crates cite.
pub use Rattle.laws_contents.proofs.inside.Counted.{carried_once_is_in_place, formed_pages_have_256_words, labels_count, once_is_by_labels, page_numbers_are_words, pages_are_their_counted_bytes}
pub use Rattle.laws_contents.proofs.inside.Full.{full_before_the_next, none_before_the_first}
pub use Rattle.laws_contents.proofs.inside.WholeFiles.{full_before_each_of_a_whole_pack}
