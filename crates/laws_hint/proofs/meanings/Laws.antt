-- The laws of meanings: what other crates cite.
pub use Rattle.laws_hint.proofs.inside.Meaning.{free_sectors_are_available, free_table_is_true, only_free_table_is_complete_and_true, true_table_is_free_table, whole_pack_has_one_kind_of_true_table}
