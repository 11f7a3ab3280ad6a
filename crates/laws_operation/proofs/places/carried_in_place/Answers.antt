use Rattle.laws_operation.proofs.inside.looks.Borne.{carried_in_place}
use Rattle.laws_operation.proofs.places.carried_in_place.Goals as goal

pub returns : goal.returns
returns c = carried_in_place
