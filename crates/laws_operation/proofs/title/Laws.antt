-- The laws of title, as they are stated.
pub use Rattle.laws_operation.proofs.inside.links.FileValues.{title_keeps_links}
pub use Rattle.laws_operation.proofs.inside.words.FileLaws.{title_words_fit}
use Rattle.laws_operation.proofs.OneValue.{title_law}
use Rattle.laws_operation.specs.LeaderLaws.{TitleCarriesOut}

pub title_carries_out : TitleCarriesOut
title_carries_out = λ p f name at value w t h. title_law p w t f h.file name at value h
