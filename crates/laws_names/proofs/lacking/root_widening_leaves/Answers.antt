use Rattle.laws_names.proofs.inside.MoreRoom.{root_widening_leaves}
use Rattle.laws_names.proofs.lacking.root_widening_leaves.Goals as goal

pub returns : goal.returns
returns c = root_widening_leaves
