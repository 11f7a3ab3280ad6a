-- The laws of levels: what other crates cite.
pub use Rattle.laws_zone.proofs.inside.Bases.{bases_are_within, bases_end_zones, bases_fall}
pub use Rattle.laws_zone.proofs.inside.Levelling.{counter_junta_fills_the_zone, junta_fills_the_zone}
