-- Record writes that concern one file: the lemmas on them that laws of what stays take.
pub use Rattle.laws_operation.proofs.inside.links.Cutting.{cut_concerns, ends_there, label_is, same_front, same_places}
pub use Rattle.laws_operation.proofs.inside.links.Directories.{other_bytes}
pub use Rattle.laws_operation.proofs.inside.links.Dropping.{release_concerns, none_there}
pub use Rattle.laws_operation.proofs.inside.links.Entering.{end_is, entered_slots, entered_words_apart, events_are, values_of}
pub use Rattle.laws_operation.proofs.inside.links.EnterWords.{Apart}
pub use Rattle.laws_operation.proofs.inside.links.Framing.{AllConcern, other_place, other_sector}
pub use Rattle.laws_operation.proofs.inside.links.Growing.{grow_concerns, grown_place}
pub use Rattle.laws_operation.proofs.inside.links.Making.{head_label, make_concerns, never_carried, only_two, page_label, page_there}
pub use Rattle.laws_operation.proofs.inside.links.Values.{AllOf, of_carried, values_concern}
pub use Rattle.laws_operation.proofs.inside.links.Widening.{widened_words}
pub use Rattle.laws_operation.proofs.inside.Rooming.{run_bare}
