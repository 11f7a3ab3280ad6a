-- The laws of steps and of lines that write: what other crates cite.
pub use Rattle.exec_steps.proofs.Joining.{step_stops, steps_join}
pub use Rattle.exec_steps.proofs.Lining.{line_is_done, line_keeps_its_streams, line_stops, lines_break_off}
pub use Rattle.exec_steps.proofs.Several.{does_is_a_step, looks_midway_stop, quiet_is_a_step}
pub use Rattle.exec_steps.proofs.Stepping.{call_is_a_step}
pub use Rattle.exec_steps.proofs.Streamed.{streams_stay_found}
