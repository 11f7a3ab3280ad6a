use Rattle.laws_midway.proofs.inside.Longer.{widen_lengthens}
use Rattle.laws_midway.proofs.growing.widen_lengthens.Goals as goal

pub returns : goal.returns
returns c = widen_lengthens
