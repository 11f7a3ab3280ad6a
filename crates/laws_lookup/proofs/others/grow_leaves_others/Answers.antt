use Rattle.laws_lookup.proofs.inside.LeftAlone.{grow_leaves_others}
use Rattle.laws_lookup.proofs.others.grow_leaves_others.Goals as goal

pub returns : goal.returns
returns c = grow_leaves_others
