use Rattle.laws_operation.proofs.cut.Laws.{cut_carries_out}
use Rattle.laws_operation.proofs.cut.cut_carries_out.Goals as goal

pub returns : goal.returns
returns c = cut_carries_out
