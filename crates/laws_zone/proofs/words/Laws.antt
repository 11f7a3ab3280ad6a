-- The laws of words: what other crates cite.
pub use Rattle.laws_zone.proofs.inside.Wording.{block_words_are_stored, storable_words_are_read, stores_inside_leave_a_memory, user_words_are_stored}
