-- The laws of scavenges as turns: what other crates cite.
pub use Rattle.laws_session.proofs.inside.Answering.{scavenges_break_off}
pub use Rattle.laws_session.proofs.inside.Scavenging.{crashes_of_a_scavenge, quiet_writes_obey, scavenges_are_turns, scavenges_cure, scavenges_obey}
