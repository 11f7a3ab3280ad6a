-- The laws of changes: what other crates cite.
pub use Rattle.laws_hint.proofs.inside.MarkedOperations.{claims_mark_the_map, descriptor_writes_leave_the_map, releases_mark_the_map, values_leave_the_map}
pub use Rattle.laws_hint.proofs.inside.Marking.{claims_and_releases_mark_free_table, marking_sets_listed_bits_alone}
