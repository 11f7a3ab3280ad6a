use Rattle.laws_mend.proofs.inside.Joining.{tending_ends}
use Rattle.laws_mend.proofs.joins.tending_ends.Goals as goal

pub returns : goal.returns
returns c = tending_ends
