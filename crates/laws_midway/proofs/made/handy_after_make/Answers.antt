use Rattle.laws_midway.proofs.inside.Made.{handy_after_make}
use Rattle.laws_midway.proofs.made.handy_after_make.Goals as goal

pub returns : goal.returns
returns c = handy_after_make
