-- The laws of sessions that may begin: what other crates cite.
pub use Rattle.laws_met.proofs.inside.First.{formatted_pack_takes_a_line}
