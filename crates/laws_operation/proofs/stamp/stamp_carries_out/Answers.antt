use Rattle.laws_operation.proofs.stamp.Laws.{stamp_carries_out}
use Rattle.laws_operation.proofs.stamp.stamp_carries_out.Goals as goal

pub returns : goal.returns
returns c = stamp_carries_out
