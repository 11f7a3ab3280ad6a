use Rattle.laws_mend.proofs.inside.Joining.{tends_join}
use Rattle.laws_mend.proofs.joins.tends_join.Goals as goal

pub returns : goal.returns
returns c = tends_join
