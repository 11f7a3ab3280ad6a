-- The laws of several operations that are done: what other crates cite.
pub use Rattle.laws_call.proofs.inside.Several.{done_misled_before, done_stands}
