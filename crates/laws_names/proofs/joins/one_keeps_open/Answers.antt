use Rattle.laws_names.proofs.inside.Joining.{one_keeps_open}
use Rattle.laws_names.proofs.joins.one_keeps_open.Goals as goal

pub returns : goal.returns
returns c = one_keeps_open
