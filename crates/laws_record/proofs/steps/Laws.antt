-- The laws of steps: what other crates cite.
pub use Rattle.laws_record.proofs.DirSteps.{leave_is_the_step, widen_is_the_step}
pub use Rattle.laws_record.proofs.DropSteps.{drop_is_the_step}
pub use Rattle.laws_record.proofs.LeaderSteps.{stamp_is_the_step, title_is_the_step}
pub use Rattle.laws_record.proofs.inside.FileSteps.{cut_is_the_step, grow_is_the_step, put_is_the_step}
pub use Rattle.laws_record.proofs.inside.Making.{make_is_the_step}
