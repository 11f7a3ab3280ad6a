-- The laws of cut, as they are stated.
pub use Rattle.laws_operation.proofs.inside.links.Cutting.{cut_keeps_links}
pub use Rattle.laws_operation.proofs.inside.links.OnceOthers.{cut_carries_once}
pub use Rattle.laws_operation.proofs.inside.looks.Freed.{cut_frees_its_pages, cut_takes_no_sector}
pub use Rattle.laws_operation.proofs.inside.words.FileLaws.{cut_words_fit}
use Rattle.laws_operation.proofs.Cutting.{cut_law}
use Rattle.laws_operation.specs.ByteLaws.{CutCarriesOut}

pub cut_carries_out : CutCarriesOut
cut_carries_out = λ p f n at label later w t h. cut_law p w t f h.file n at label later h
