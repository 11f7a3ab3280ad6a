-- The laws of drop, as they are stated.
pub use Rattle.laws_operation.proofs.inside.DropLaw.{drop_carries_out}
pub use Rattle.laws_operation.proofs.inside.Freeing.{slot_carries_out}
pub use Rattle.laws_operation.proofs.inside.SlotBefore.{slot_of_a_drop_stood_before}
pub use Rattle.laws_operation.proofs.inside.links.DirValues.{slot_keeps_links}
pub use Rattle.laws_operation.proofs.inside.links.DropWhole.{drop_keeps_links}
pub use Rattle.laws_operation.proofs.inside.links.Dropping.{release_keeps_links}
pub use Rattle.laws_operation.proofs.inside.links.OnceOthers.{drop_carries_once, release_carries_once}
pub use Rattle.laws_operation.proofs.inside.looks.Freed.{drop_frees_its_pages, drop_takes_no_sector, release_frees_its_pages, release_takes_no_sector}
pub use Rattle.laws_operation.proofs.inside.words.DirectoryLaws.{slot_words_fit}
use Rattle.laws_operation.proofs.Dropped.{release_law}
use Rattle.laws_operation.specs.LifeLaws.{ReleaseCarriesOut}

pub release_carries_out : ReleaseCarriesOut
release_carries_out = λ p f at pages w t h. (release_law p w t f at pages h).0
