-- The laws of marks: what other crates cite.
pub use Rattle.laws_room.proofs.inside.Marking.{opened_is_unmarked, unmarked_is_unclean, unmarked_stays}
