use Rattle.laws_operation.proofs.title.Laws.{title_carries_out}
use Rattle.laws_operation.proofs.title.title_carries_out.Goals as goal

pub returns : goal.returns
returns c = title_carries_out
