-- The laws of memories: what other crates cite.
pub use Rattle.laws_zone.proofs.inside.Remembering.{memories_have_such_zones}
pub use Rattle.laws_zone.proofs.inside.Writing.{memories_are_their_blocks}
pub use Rattle.laws_zone.proofs.inside.Zoning.{zones_read_back}
