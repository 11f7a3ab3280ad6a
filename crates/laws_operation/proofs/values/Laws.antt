-- The laws of values: what other crates cite.
pub use Rattle.laws_operation.proofs.inside.Wording.{label_with_another_count}
pub use Rattle.laws_operation.proofs.inside.links.OnceOthers.{values_carry_once}
pub use Rattle.laws_operation.proofs.inside.looks.Freed.{values_leave_free_sectors}
