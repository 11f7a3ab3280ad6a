-- The laws of the tally over calls: what other crates cite.
pub use Rattle.laws_call.proofs.inside.Counting.{call_is_counted, call_is_counted_on, count_of_a_call, quiet_call_is_counted, releases_are_counted}
