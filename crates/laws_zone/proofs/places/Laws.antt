-- The laws of places: what other crates cite.
pub use Rattle.laws_zone.proofs.inside.Growing.{zones_grow}
pub use Rattle.laws_zone.proofs.inside.Replacing.{only_the_zone_changes, other_blocks_stand_in_place}
pub use Rattle.laws_zone.proofs.inside.Shrinking.{zones_shrink}
