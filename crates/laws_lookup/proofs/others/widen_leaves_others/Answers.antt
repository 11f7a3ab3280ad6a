use Rattle.laws_lookup.proofs.inside.LeftAlone.{widen_leaves_others}
use Rattle.laws_lookup.proofs.others.widen_leaves_others.Goals as goal

pub returns : goal.returns
returns c = widen_leaves_others
