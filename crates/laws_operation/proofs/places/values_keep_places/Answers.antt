use Rattle.laws_operation.proofs.inside.looks.Borne.{values_keep_places}
use Rattle.laws_operation.proofs.places.values_keep_places.Goals as goal

pub returns : goal.returns
returns c = values_keep_places
