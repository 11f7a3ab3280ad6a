-- The laws of uses: what other crates cite.
pub use Rattle.laws_room.proofs.inside.Claiming.{claim_takes_an_available_sector}
pub use Rattle.laws_room.proofs.inside.EachUse.{each_operation_takes_its_pages}
pub use Rattle.laws_room.proofs.inside.SectorsUsed.{use_follows_the_operation}
