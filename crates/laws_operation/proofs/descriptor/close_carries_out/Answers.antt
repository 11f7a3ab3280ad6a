use Rattle.laws_operation.proofs.CloseLaw.{close_carries_out}
use Rattle.laws_operation.proofs.descriptor.close_carries_out.Goals as goal

pub returns : goal.returns
returns c = close_carries_out
