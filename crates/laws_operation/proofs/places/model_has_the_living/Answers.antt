use Rattle.laws_operation.proofs.inside.looks.ReadFiles.{model_has_the_living}
use Rattle.laws_operation.proofs.places.model_has_the_living.Goals as goal

pub returns : goal.returns
returns c = model_has_the_living
