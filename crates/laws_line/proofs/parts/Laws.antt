-- The laws of parts: what other crates cite.
pub use Rattle.laws_line.proofs.inside.crashes.Beginning.{moves_of_a_line_split}
pub use Rattle.laws_line.proofs.inside.crashes.OneCommit.{line_moves_lead_to_the_model}
pub use Rattle.laws_line.proofs.inside.crashes.Parting.{crash_by_crash, crashes_of_both_parts, crashes_of_parts, operations_are_in_session, read_and_mendable_operates, viewed_and_mendable_in_session, viewed_and_mendable_operates}
