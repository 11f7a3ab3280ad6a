use Rattle.laws_names.proofs.inside.Unlacking.{lacking_are_adopted}
use Rattle.laws_names.proofs.lacking.lacking_are_adopted.Goals as goal

pub returns : goal.returns
returns c = lacking_are_adopted
