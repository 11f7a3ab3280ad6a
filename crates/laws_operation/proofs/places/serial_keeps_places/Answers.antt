use Rattle.laws_operation.proofs.inside.looks.Borne.{serial_keeps_places}
use Rattle.laws_operation.proofs.places.serial_keeps_places.Goals as goal

pub returns : goal.returns
returns c = serial_keeps_places
