use Rattle.laws_names.proofs.inside.Joining.{tending_keeps_open}
use Rattle.laws_names.proofs.joins.tending_keeps_open.Goals as goal

pub returns : goal.returns
returns c = tending_keeps_open
