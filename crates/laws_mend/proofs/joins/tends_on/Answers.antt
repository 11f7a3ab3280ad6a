use Rattle.laws_mend.proofs.inside.Joining.{tends_on}
use Rattle.laws_mend.proofs.joins.tends_on.Goals as goal

pub returns : goal.returns
returns c = tends_on
