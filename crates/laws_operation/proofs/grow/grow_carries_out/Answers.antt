use Rattle.laws_operation.proofs.grow.Laws.{grow_carries_out}
use Rattle.laws_operation.proofs.grow.grow_carries_out.Goals as goal

pub returns : goal.returns
returns c = grow_carries_out
