-- The law of closing: what other crates cite.
pub use Rattle.laws_mend.proofs.inside.Redescribed.{described_is_sound}
