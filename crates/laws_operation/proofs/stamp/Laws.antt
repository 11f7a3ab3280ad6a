-- The laws of stamp, as they are stated.
pub use Rattle.laws_operation.proofs.inside.links.FileValues.{stamp_keeps_links}
pub use Rattle.laws_operation.proofs.inside.words.FileLaws.{stamp_words_fit}
use Rattle.laws_operation.proofs.OneValue.{stamp_law}
use Rattle.laws_operation.specs.LeaderLaws.{StampCarriesOut}

pub stamp_carries_out : StampCarriesOut
stamp_carries_out = λ p f moment at value w t h. stamp_law p w t f h.file moment at value h
