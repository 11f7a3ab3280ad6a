-- The laws of calls one after another: what other crates cite.
pub use Rattle.laws_call.proofs.inside.Going.{call_joins, line_stops, no_call_yet, operation_joins, serial_and_make_join, silent_call_joins}
