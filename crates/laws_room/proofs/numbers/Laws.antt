-- The laws of numbers: what other crates cite.
pub use Rattle.laws_room.proofs.inside.Rooming.{counting_theorem}
