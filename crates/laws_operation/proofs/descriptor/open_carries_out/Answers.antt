use Rattle.laws_operation.proofs.inside.OpeningMark.{open_carries_out}
use Rattle.laws_operation.proofs.descriptor.open_carries_out.Goals as goal

pub returns : goal.returns
returns c = open_carries_out
