-- The laws of the premises of calls: what other crates cite.
pub use Rattle.laws_met.proofs.inside.Crowded.{entering_over_a_pages_end_is_written}
pub use Rattle.laws_met.proofs.inside.Writings.{make_is_written, new_pages_are_listed, values_are_full, writings_are_met}
pub use Rattle.laws_met.proofs.inside.Dropping.{drop_by_two_calls_is_met, held_file_stays_found}
pub use Rattle.laws_met.proofs.inside.Naming.{freeing_is_met, naming_is_met}
