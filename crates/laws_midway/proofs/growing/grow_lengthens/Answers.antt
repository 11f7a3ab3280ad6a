use Rattle.laws_midway.proofs.inside.Longer.{grow_lengthens}
use Rattle.laws_midway.proofs.growing.grow_lengthens.Goals as goal

pub returns : goal.returns
returns c = grow_lengthens
