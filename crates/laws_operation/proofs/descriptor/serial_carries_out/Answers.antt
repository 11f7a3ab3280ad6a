use Rattle.laws_operation.proofs.inside.OpeningMark.{serial_carries_out}
use Rattle.laws_operation.proofs.descriptor.serial_carries_out.Goals as goal

pub returns : goal.returns
returns c = serial_carries_out
