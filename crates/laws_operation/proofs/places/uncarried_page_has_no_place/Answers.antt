use Rattle.laws_operation.proofs.inside.looks.Borne.{uncarried_page_has_no_place}
use Rattle.laws_operation.proofs.places.uncarried_page_has_no_place.Goals as goal

pub returns : goal.returns
returns c = uncarried_page_has_no_place
