use Rattle.laws_midway.proofs.inside.Growing.{directory_has_grown}
use Rattle.laws_midway.proofs.growing.directory_has_grown.Goals as goal

pub returns : goal.returns
returns c = directory_has_grown
