use Rattle.laws_mend.proofs.inside.Joining.{tends_breaks_off}
use Rattle.laws_mend.proofs.joins.tends_breaks_off.Goals as goal

pub returns : goal.returns
returns c = tends_breaks_off
