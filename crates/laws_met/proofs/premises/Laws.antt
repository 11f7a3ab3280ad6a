-- The laws of premises: what other crates cite.
pub use Rattle.laws_met.proofs.inside.Lookups.{lookups_are_met}
pub use Rattle.laws_met.proofs.inside.Meeting.{premises_are_met, session_closes}
pub use Rattle.laws_met.proofs.inside.Meets.{lines_of_each_kind_run, premises_are_met_in_lines}
