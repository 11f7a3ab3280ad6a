use Rattle.laws_operation.proofs.EnterMoves.{enter_carries_out}
use Rattle.laws_operation.proofs.enter.enter_carries_out.Goals as goal

pub returns : goal.returns
returns c = enter_carries_out
