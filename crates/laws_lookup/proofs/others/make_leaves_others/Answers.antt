use Rattle.laws_lookup.proofs.inside.LeftAlone.{make_leaves_others}
use Rattle.laws_lookup.proofs.others.make_leaves_others.Goals as goal

pub returns : goal.returns
returns c = make_leaves_others
