use Rattle.laws_operation.proofs.inside.DropLaw.{drop_carries_out}
use Rattle.laws_operation.proofs.drop.drop_carries_out.Goals as goal

pub returns : goal.returns
returns c = drop_carries_out
