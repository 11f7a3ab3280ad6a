-- The laws of words: what other crates cite.
pub use Rattle.laws_hint.proofs.inside.Wording.{absent_map_is_read_busy_and_described_free, table_gives_the_words_of_its_bits, table_is_written, table_of_enough_words_is_their_map, table_read_is_described, whole_pack_describes_the_table_read, words_give_the_map_back}
