use Rattle.laws_operation.proofs.grow.Laws.{grow_places_its_pages}
use Rattle.laws_operation.proofs.grow.grow_places_its_pages.Goals as goal

pub returns : goal.returns
returns c = grow_places_its_pages
