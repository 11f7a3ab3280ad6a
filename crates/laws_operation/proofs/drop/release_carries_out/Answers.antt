use Rattle.laws_operation.proofs.drop.Laws.{release_carries_out}
use Rattle.laws_operation.proofs.drop.release_carries_out.Goals as goal

pub returns : goal.returns
returns c = release_carries_out
