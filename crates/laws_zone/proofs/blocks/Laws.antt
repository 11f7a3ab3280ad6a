-- The laws of blocks: what other crates cite.
pub use Rattle.laws_zone.proofs.Joining.{freed_blocks_join}
pub use Rattle.laws_zone.proofs.inside.Blocking.{given_back_fills_the_zone, taken_fills_the_zone, word_fills_the_zone}
