-- The links of a file that has grown: the lemmas on them that laws of what stays take.
pub use Rattle.laws_operation.proofs.inside.links.ClaimsRow.{IsClaim, Rowed}
pub use Rattle.laws_operation.proofs.inside.links.FileGrowth.{none_behind}
pub use Rattle.laws_operation.proofs.inside.links.Growing.{grown_place, label_is, later, rows, same_front}
