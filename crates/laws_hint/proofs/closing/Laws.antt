-- The laws of closing: what other crates cite.
pub use Rattle.laws_hint.proofs.inside.ClosedHints.{closing_leaves_a_clean_pack, closing_leaves_hints_true}
pub use Rattle.laws_hint.proofs.inside.ClosedMaps.{closed_map_is_read_back, closed_map_is_true_where_it_was, closing_describes_its_map}
