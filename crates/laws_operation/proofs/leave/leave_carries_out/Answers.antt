use Rattle.laws_operation.proofs.leave.Laws.{leave_carries_out}
use Rattle.laws_operation.proofs.leave.leave_carries_out.Goals as goal

pub returns : goal.returns
returns c = leave_carries_out
