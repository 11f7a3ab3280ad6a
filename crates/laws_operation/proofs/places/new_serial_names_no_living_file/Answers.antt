use Rattle.laws_operation.proofs.inside.looks.Borne.{new_serial_names_no_living_file}
use Rattle.laws_operation.proofs.places.new_serial_names_no_living_file.Goals as goal

pub returns : goal.returns
returns c = new_serial_names_no_living_file
