use Rattle.laws_lookup.proofs.inside.LeftAlone.{cut_leaves_others}
use Rattle.laws_lookup.proofs.others.cut_leaves_others.Goals as goal

pub returns : goal.returns
returns c = cut_leaves_others
