-- The laws of words: what other crates cite.
pub use Rattle.laws_contents.proofs.inside.Words.{each_word_has_its_page, first_page_says_mark_and_last, page_words_are_a_slice, page_words_go_on, word_stands_in_its_page, words_stand_in_their_page}
