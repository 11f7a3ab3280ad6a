use Rattle.laws_mend.proofs.inside.Alike.{leader_value_leaves}
use Rattle.laws_mend.proofs.parts.leader_value_leaves.Goals as goal

pub returns : goal.returns
returns c = leader_value_leaves
