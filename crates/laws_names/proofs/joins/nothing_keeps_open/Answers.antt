use Rattle.laws_names.proofs.inside.Joining.{nothing_keeps_open}
use Rattle.laws_names.proofs.joins.nothing_keeps_open.Goals as goal

pub returns : goal.returns
returns c = nothing_keeps_open
