use Rattle.laws_operation.proofs.widen.Laws.{widen_carries_out}
use Rattle.laws_operation.proofs.widen.widen_carries_out.Goals as goal

pub returns : goal.returns
returns c = widen_carries_out
