-- The laws of lines that wrote nothing: what other crates cite.
pub use Rattle.exec_session.proofs.Turning.{line_is_refused, line_leaves_another_world, line_stops_unwritten, line_writes_nothing, turned_is_a_turn}
