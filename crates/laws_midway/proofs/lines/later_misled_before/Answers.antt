use Rattle.laws_midway.proofs.inside.Lining.{later_misled_before}
use Rattle.laws_midway.proofs.lines.later_misled_before.Goals as goal

pub returns : goal.returns
returns c = later_misled_before
