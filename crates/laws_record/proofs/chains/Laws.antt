-- The laws of chains: what other crates cite.
pub use Rattle.laws_record.proofs.Chaining.{runs_chain, scavenges_join}
