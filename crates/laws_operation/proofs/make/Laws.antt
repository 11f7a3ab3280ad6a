-- The laws of make, as they are stated.
pub use Rattle.laws_operation.proofs.inside.links.Making.{make_keeps_links}
pub use Rattle.laws_operation.proofs.inside.links.OnceOthers.{make_carries_once}
pub use Rattle.laws_operation.proofs.inside.looks.Freed.{make_keeps_unclaimed_free}
pub use Rattle.laws_operation.proofs.inside.looks.Nameless.{free_name_is_apart_after_make, make_leaves_no_name}
pub use Rattle.laws_operation.proofs.inside.looks.NewPages.{make_places_its_pages}
pub use Rattle.laws_operation.proofs.inside.words.FileLaws.{make_words_fit}
use Rattle.laws_operation.proofs.Making.{make_law}
use Rattle.laws_operation.specs.LifeLaws.{MakeCarriesOut}

pub make_carries_out : MakeCarriesOut
make_carries_out = λ p f name moment page leader w t h. make_law p w t f name moment page leader h
