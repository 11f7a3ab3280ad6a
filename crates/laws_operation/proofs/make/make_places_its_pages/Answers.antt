use Rattle.laws_operation.proofs.make.Laws.{make_places_its_pages}
use Rattle.laws_operation.proofs.make.make_places_its_pages.Goals as goal

pub returns : goal.returns
returns c = make_places_its_pages
