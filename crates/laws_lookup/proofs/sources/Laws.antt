-- The laws of files that were found: what other crates cite.
pub use Rattle.laws_lookup.proofs.inside.Sourcing.{found_file_stays_found, found_file_stays_found_beside_slots, leader_that_is_not_there_misleads, looked_up_file_is_found}
