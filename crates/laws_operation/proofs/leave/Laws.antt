-- The laws of leave, as they are stated.
pub use Rattle.laws_operation.proofs.inside.links.DirValues.{leave_keeps_links}
pub use Rattle.laws_operation.proofs.inside.looks.Left.{free_name_is_apart_after_leave, leave_takes_the_only_entry}
pub use Rattle.laws_operation.proofs.inside.words.DirectoryLaws.{leave_words_fit}
use Rattle.laws_operation.proofs.Leaving.{leave_law}
use Rattle.laws_operation.specs.NameLaws.{LeaveCarriesOut}

pub leave_carries_out : LeaveCarriesOut
leave_carries_out = λ p d name at a b f own w t h. leave_law p w t d name at a b f own h
