use Rattle.laws_mend.proofs.inside.Joining.{nothing_tends}
use Rattle.laws_mend.proofs.joins.nothing_tends.Goals as goal

pub returns : goal.returns
returns c = nothing_tends
