use Rattle.laws_midway.proofs.inside.Dropped.{drop_leaves_others}
use Rattle.laws_midway.proofs.dropped.drop_leaves_others.Goals as goal

pub returns : goal.returns
returns c = drop_leaves_others
