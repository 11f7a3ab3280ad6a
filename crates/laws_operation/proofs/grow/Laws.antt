-- The laws of grow, as they are stated.
pub use Rattle.laws_operation.proofs.inside.links.FileGrowth.{grow_keeps_links}
pub use Rattle.laws_operation.proofs.inside.links.OnceGrowing.{grow_carries_once}
pub use Rattle.laws_operation.proofs.inside.looks.Freed.{claims_keep_unclaimed_free, grow_keeps_unclaimed_free}
pub use Rattle.laws_operation.proofs.inside.looks.NewPages.{grow_places_its_pages}
pub use Rattle.laws_operation.proofs.inside.words.GrownPages.{grow_words_fit}
use Rattle.laws_operation.proofs.Grown.{grow_law}
use Rattle.laws_operation.specs.ByteLaws.{GrowCarriesOut}

pub grow_carries_out : GrowCarriesOut
grow_carries_out = λ p f new claims at label value w t h. grow_law p w t f h.file new claims at label value h
