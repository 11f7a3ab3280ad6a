-- The laws of put, as they are stated.
pub use Rattle.laws_operation.proofs.inside.Wording.{bytes_in_a_value}
pub use Rattle.laws_operation.proofs.inside.links.FileValues.{put_keeps_links}
pub use Rattle.laws_operation.proofs.inside.words.FileLaws.{put_past_words_fit, put_words_fit}
use Rattle.laws_operation.proofs.OneValue.{put_law}
use Rattle.laws_operation.specs.ByteLaws.{PutCarriesOut}

pub put_carries_out : PutCarriesOut
put_carries_out = λ p f offset new at value w t h. put_law p w t f h.file offset new at value h
