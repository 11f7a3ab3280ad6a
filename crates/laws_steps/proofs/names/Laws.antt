-- The laws of names and room in a line: what other crates cite.
pub use Rattle.laws_steps.proofs.inside.Absent.{absent_name_stays_absent, leave_keeps_room}
