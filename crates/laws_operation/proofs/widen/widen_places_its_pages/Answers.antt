use Rattle.laws_operation.proofs.widen.Laws.{widen_places_its_pages}
use Rattle.laws_operation.proofs.widen.widen_places_its_pages.Goals as goal

pub returns : goal.returns
returns c = widen_places_its_pages
