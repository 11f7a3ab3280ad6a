use Rattle.laws_operation.proofs.inside.looks.Borne.{file_lives_in_a_place}
use Rattle.laws_operation.proofs.places.file_lives_in_a_place.Goals as goal

pub returns : goal.returns
returns c = file_lives_in_a_place
