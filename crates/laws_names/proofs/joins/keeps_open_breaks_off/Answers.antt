use Rattle.laws_names.proofs.inside.Joining.{keeps_open_breaks_off}
use Rattle.laws_names.proofs.joins.keeps_open_breaks_off.Goals as goal

pub returns : goal.returns
returns c = keeps_open_breaks_off
