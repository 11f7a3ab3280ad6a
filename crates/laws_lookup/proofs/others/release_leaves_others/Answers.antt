use Rattle.laws_lookup.proofs.inside.LeftAlone.{release_leaves_others}
use Rattle.laws_lookup.proofs.others.release_leaves_others.Goals as goal

pub returns : goal.returns
returns c = release_leaves_others
