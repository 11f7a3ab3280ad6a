-- The laws of files that were found, over several operations: what other crates cite.
pub use Rattle.laws_steps.proofs.inside.Leaving.{no_leave_keeps_found, other_files_stay_found}
pub use Rattle.laws_steps.proofs.inside.LineKeeping.{call_keeps_found, done_keeps_found, later_keeps_found, make_keeps_found, models_found_stays_entered, none_keeps_found, one_call_keeps_found, one_keeps_found, serial_and_make_keep_found, written_keeps_found_over}
pub use Rattle.laws_steps.proofs.inside.Streamed.{streamed_files_stay_found}
