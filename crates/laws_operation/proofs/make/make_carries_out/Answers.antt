use Rattle.laws_operation.proofs.make.Laws.{make_carries_out}
use Rattle.laws_operation.proofs.make.make_carries_out.Goals as goal

pub returns : goal.returns
returns c = make_carries_out
