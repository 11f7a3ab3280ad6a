use Rattle.laws_contents.proofs.pages.Laws.{carried_once_is_in_place}
use Rattle.laws_contents.proofs.pages.carried_once_is_in_place.Goals as goal

pub returns : goal.returns
returns c = carried_once_is_in_place
