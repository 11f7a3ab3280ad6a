-- The laws of widen, as they are stated.
pub use Rattle.laws_operation.proofs.inside.links.OnceGrowing.{widen_carries_once}
pub use Rattle.laws_operation.proofs.inside.links.Widening.{widen_keeps_links}
pub use Rattle.laws_operation.proofs.inside.looks.NewPages.{widen_places_its_pages}
pub use Rattle.laws_operation.proofs.inside.words.DirectoryLaws.{widen_words_fit}
use Rattle.laws_operation.proofs.Widening.{widen_law}
use Rattle.laws_operation.specs.NameLaws.{WidenCarriesOut}

pub widen_carries_out : WidenCarriesOut
widen_carries_out = λ p d added claims at label value w t h. widen_law p w t d added claims at label value h
