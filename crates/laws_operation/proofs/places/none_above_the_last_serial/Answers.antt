use Rattle.laws_operation.proofs.inside.looks.Borne.{none_above_the_last_serial}
use Rattle.laws_operation.proofs.places.none_above_the_last_serial.Goals as goal

pub returns : goal.returns
returns c = none_above_the_last_serial
