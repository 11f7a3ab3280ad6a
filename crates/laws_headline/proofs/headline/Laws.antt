-- The law of three calls: what other crates cite.
pub use Rattle.laws_headline.proofs.inside.Recovering.{stopped_sessions_recover}
