-- The laws of spares: what other crates cite.
pub use Rattle.laws_line.proofs.inside.crashes.Spared.{cut_leaves_the_system, drop_leaves_the_system, enter_leaves_the_system, grow_leaves_the_system, leader_leaves_the_system, make_leaves_the_system, put_leaves_the_system, release_leaves_the_system, slot_leaves_the_system, widen_leaves_the_system}
